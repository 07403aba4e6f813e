use Rattle.std.proofs.Common.{ℕ, ◌<◌}
use Rattle.card_check.specs.CardSlots.{HasOtherLength}
use Rattle.card_types.specs.Represents.{thing_in}
use Rattle.card_check.proofs.keys.has_length_of_set.Given as goal

-- no slot before has a key of another length
abbrev pub invariant-loop-other : goal.invariant-loop-other
invariant-loop-other l = (k : ℕ) → k < l.other → HasOtherLength l.key (thing_in l.keys k) → ⊥
