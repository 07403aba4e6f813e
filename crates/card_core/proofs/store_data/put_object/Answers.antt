use Rattle.std.proofs.Common.{sym, subst}
use Rattle.rec_store.proofs.Rooms.{room_stays}
use Rattle.card_core.specs.Prelude.{HasFramesFor, object_page, object_pages}
use Rattle.rec_store.proofs.SlotPages.{among_object_pages}
use Rattle.card_core.proofs.store_data.put_object.Goals as goal

pub set_object-requires-clause-frame : goal.set_object-requires-clause-frame
set_object-requires-clause-frame g c =
    let slot = c.slot_for-slot.result in
    (room_stays object_pages c.args.records.now.staged (object_page slot) c.requires.frames (among_object_pages slot c.slot_for-slot.ensures.within)).0

pub returns-clause-frames : goal.returns-clause-frames
returns-clause-frames g c =
    let slot = c.slot_for-slot.result in
    subst (HasFramesFor object_pages) (sym c.set_object.ensures.staged)
    (room_stays object_pages c.args.records.now.staged (object_page slot) c.requires.frames (among_object_pages slot c.slot_for-slot.ensures.within)).1
