use Rattle.std.proofs.Common.{ℕ, ◌<◌}
use Rattle.std.specs.Prelude.{IfSome}
use Rattle.card_types.specs.Represents.{thing_in}
use Rattle.rec_store.specs.StoreLayout.{IsShort}
use Rattle.rec_store.proofs.store_layout.are_short.Given as goal

abbrev pub invariant-loop-slot : goal.invariant-loop-slot
invariant-loop-slot l = (k : ℕ) → k < l.slot-index → IfSome (thing_in l.keys k) IsShort
