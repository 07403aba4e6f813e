use Rattle.std.proofs.Common.{rules}
use Rattle.card_types.specs.Search.{IsFirstFree}
use Rattle.card_types.specs.declared.tables.Tables.{Tables}
use Rattle.rec_store.specs.Places.{file_page}
use Rattle.registry.proofs.Added.{file_added, first_free_of}
use Rattle.registry.proofs.Frames.{frame_alone, keeps_alone}
use Rattle.registry.proofs.files.place_file.Goals as goal

pub set_file-requires-clause-frame : goal.set_file-requires-clause-frame
set_file-requires-clause-frame g c =
    let slot = c.unwrap-slot.result in
    let there : IsFirstFree c.deref.result.now slot = search rules in
    let free = first_free_of (λ (t : Tables). t.files.items) c.args.records.now.tables c.tables.result.now c.deref.result.now c.tables.ensures.tables c.deref.ensures.value slot there in
    frame_alone c.args.records.now.staged (file_page slot) (c.requires.room slot free)

pub returns-clause-slots : goal.returns-clause-slots
returns-clause-slots g c =
    let there : IsFirstFree c.deref.result.now c.unwrap-slot.result = search rules in
    record {
      free = first_free_of (λ (t : Tables). t.files.items) c.args.records.now.tables c.tables.result.now c.deref.result.now c.tables.ensures.tables c.deref.ensures.value c.unwrap-slot.result there;
      set = c.set_file.ensures.tables;
    }

pub returns-clause-said : goal.returns-clause-said
returns-clause-said g c page said says well =
    file_added page c.args.records.now.tables said says well c.set_file.new.self.tables c.unwrap-slot.result c.args.value c.requires.fresh (returns-clause-slots g c)

pub returns-clause-room : goal.returns-clause-room
returns-clause-room g c =
    keeps_alone c.args.records.now.staged (file_page c.unwrap-slot.result) c.set_file.new.self.staged c.set_file.ensures.staged
