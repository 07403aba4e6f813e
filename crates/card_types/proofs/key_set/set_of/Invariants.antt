use Rattle.std.proofs.Common.{ℕ, ◌<◌, List}
use Rattle.card_types.specs.KeySets.{HasKeys, IsVersionAsked}
use Rattle.card_types.proofs.key_set.set_of.Given as goal

abbrev pub invariant-loop-candidate : goal.invariant-loop-candidate
invariant-loop-candidate l = (other : ℕ) (others : List ℕ) → other < l.candidate → IsVersionAsked l.version other → HasKeys l.keys l.owner other others → ⊥
