use Rattle.card_types.specs.Represents.{thing_in}
use Rattle.rec_store.specs.Places.{file_page}
use Rattle.registry.proofs.Frames.{frame_alone, keeps_alone}
use Rattle.registry.proofs.Replaced.{file_removed, thing_of}
use Rattle.registry.proofs.files.remove_file.Goals as goal

pub set_file-requires-clause-frame : goal.set_file-requires-clause-frame
set_file-requires-clause-frame g c = frame_alone c.args.records.now.staged (file_page c.args.slot) c.requires.room

pub returns-clause-said : goal.returns-clause-said
returns-clause-said g c page said says =
    let slot = c.args.slot in
    let before = c.args.records.now.tables in
    let file = thing_of (thing_in before.files.items slot) c.requires.slot in
    file_removed page before c.set_file.new.self.tables said says slot file.0 file.1 c.requires.unloaded c.set_file.ensures.tables

pub returns-clause-room : goal.returns-clause-room
returns-clause-room g c = keeps_alone c.args.records.now.staged (file_page c.args.slot) c.set_file.new.self.staged c.set_file.ensures.staged
