use Rattle.std.proofs.Common.{◌≡◌, ℕ, ◌<◌, Some}
use Rattle.card_types.specs.Represents.{thing_in}
use Rattle.card_check.proofs.slots.all_admitted.Given as goal

abbrev pub invariant-loop-slot : goal.invariant-loop-slot
invariant-loop-slot g l = (k : ℕ) (thing : _) → k < l.slot → thing_in l.slots k ≡ Some thing → g.A.Asks.admits l.asks k thing
