use Rattle.rec_store.specs.Places.{entry_page}
use Rattle.rec_store.specs.Places.{entry_pages}
use Rattle.rec_store.proofs.SlotPages.{among_entry_pages}
use Rattle.registry.proofs.Frames.{frame_of, keeps_staged}
use Rattle.registry.proofs.entries.put_entry.Goals as goal

pub set_entry-requires-clause-frame : goal.set_entry-requires-clause-frame
set_entry-requires-clause-frame g c = frame_of entry_pages c.args.records.now.staged (entry_page c.args.slot) (among_entry_pages c.args.slot c.requires.range) c.requires.room

pub returns-clause-room : goal.returns-clause-room
returns-clause-room g c =
    keeps_staged entry_pages c.args.records.now.staged (entry_page c.args.slot) (among_entry_pages c.args.slot c.requires.range) c.set_entry.new.self.staged c.set_entry.ensures.staged
