use Rattle.std.proofs.Common.{◌≡◌, ◌+◌, ◌*◌, ◌/◌, ◌<◌, ℕ}
use Rattle.std.specs.Prelude.{IfSome}
use Rattle.card_types.specs.Represents.{thing_in}
use Rattle.rec_store.specs.Places.{slot_at}
use Rattle.rec_store.specs.Slot.{SlotHolds}
use Rattle.rec_store.proofs.slots.read_page.Given as goal

-- the slots before this place are read, and those before the page are as they were
abbrev pub invariant-loop-place : goal.invariant-loop-place
invariant-loop-place g l = record {
  holds : (place : ℕ) → place < l.place → SlotHolds g.T.Slot.is_in (slot_at l.bytes g.T.Slot.SIZE place) (thing_in l.slots (l.number * (256 / g.T.Slot.SIZE) + place));
  roomy : (place : ℕ) → place < l.place → IfSome (thing_in l.slots (l.number * (256 / g.T.Slot.SIZE) + place)) g.T.Slot.is_read;
  before : (slot : ℕ) → slot < l.number * (256 / g.T.Slot.SIZE) → thing_in l.slots slot ≡ thing_in l.fn.slots slot;
}
