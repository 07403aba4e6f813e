use Rattle.std.proofs.Common.{◌≡◌, ◌⊎◌, ◌*◌, ◌/◌, ◌<◌, ℕ, slice_get}
use Rattle.rec_store.specs.Places.{slot_from}
use Rattle.rec_store.specs.Reopens.{store_in}
use Rattle.rec_store.specs.StoredTables.{AreHeld}
use Rattle.rec_store.specs.Slot.{SlotHolds}
use Rattle.page_journal.proofs.PageKinds.{IsPastStore}
use Rattle.rec_store.proofs.slots.write_slots.Given as goal

-- the slots before this page are written, and no page of another kind is
abbrev pub invariant-loop-number : goal.invariant-loop-number
invariant-loop-number g l =
    let F = g.F.Flash in
    record {
      held : F.tells → AreHeld (SlotHolds g.T.Slot.is_in) (slot_from (store_in (slice_get (F.pages l.flash))) g.T.Slot.FIRST g.T.Slot.SIZE) (l.number * (256 / g.T.Slot.SIZE)) l.slots;
      others : F.tells → (page : ℕ) → (page < g.T.Slot.FIRST) ⊎ IsPastStore page → slice_get (F.pages l.flash) page ≡ slice_get (F.pages l.fn.flash) page;
      faults : F.faults l.flash ≡ F.faults l.fn.flash;
    }
