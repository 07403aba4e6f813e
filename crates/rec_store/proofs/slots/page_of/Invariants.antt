use Rattle.std.proofs.Common.{◌+◌, ◌*◌, ◌/◌, ◌<◌, ℕ}
use Rattle.card_types.specs.Represents.{thing_in}
use Rattle.rec_store.specs.Places.{slot_at}
use Rattle.rec_store.specs.Slot.{SlotHolds}
use Rattle.rec_store.proofs.slots.page_of.Given as goal

-- the slots before this place hold their things
abbrev pub invariant-loop-place : goal.invariant-loop-place
invariant-loop-place g l = (place : ℕ) → place < l.place → SlotHolds g.T.Slot.is_in (slot_at l.bytes g.T.Slot.SIZE place) (thing_in l.slots (l.number * (256 / g.T.Slot.SIZE) + place))
