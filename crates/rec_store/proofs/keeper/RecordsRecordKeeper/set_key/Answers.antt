use Rattle.std.proofs.Common.{sym, subst}
use Rattle.rec_store.specs.Places.{key_page, key_pages}
use Rattle.rec_store.specs.Room.{HasFramesFor}
use Rattle.rec_store.proofs.SlotPages.{among_key_pages}
use Rattle.rec_store.proofs.Rooms.{room_stays}
use Rattle.rec_store.proofs.keeper.RecordsRecordKeeper.set_key.Goals as goal

pub set_key-requires-clause-frame : goal.set_key-requires-clause-frame
set_key-requires-clause-frame g c =
    let slot = c.args.slot in
    (room_stays key_pages c.args.self.now.staged (key_page slot) c.requires.roomy.room (among_key_pages slot c.requires.range)).0

pub returns-clause-roomy : goal.returns-clause-roomy
returns-clause-roomy g c =
    let slot = c.args.slot in
    record {
      live = c.set_key.ensures.same.1;
      room = subst (HasFramesFor key_pages) (sym c.set_key.ensures.staged)
          (room_stays key_pages c.args.self.now.staged (key_page slot) c.requires.roomy.room (among_key_pages slot c.requires.range)).1;
    }
