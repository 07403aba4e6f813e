use Rattle.std.proofs.Common.{◌*◌, ◌/◌, ◌<◌, ℕ}
use Rattle.std.specs.Prelude.{IfSome}
use Rattle.card_types.specs.Represents.{thing_in}
use Rattle.rec_store.specs.Reopens.{store_page}
use Rattle.rec_store.specs.Places.{slot_from}
use Rattle.rec_store.specs.Reading.{IsRead}
use Rattle.rec_store.specs.StoredTables.{AreHeld}
use Rattle.rec_store.specs.Slot.{SlotHolds}
use Rattle.rec_store.proofs.slots.read_slots.Given as goal

-- the slots before this page are read, and the device was read alone
abbrev pub invariant-loop-number : goal.invariant-loop-number
invariant-loop-number g l = record {
  read : IsRead g.F.Flash l.fn.store l.store;
  holds : g.F.Flash.tells → AreHeld (SlotHolds g.T.Slot.is_in) (slot_from (store_page (g.F.Flash.pages l.fn.store.flash)) g.T.Slot.FIRST g.T.Slot.SIZE) (l.number * (256 / g.T.Slot.SIZE)) l.slots;
  roomy : (slot : ℕ) → slot < l.number * (256 / g.T.Slot.SIZE) → IfSome (thing_in l.slots slot) g.T.Slot.is_read;
}
