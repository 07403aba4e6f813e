use Rattle.std.proofs.Common.{◌≡◌, List, Option, Some, ap, sym, subst, ◌∙◌, rules}
use Rattle.std.specs.Prelude.{IfSome}
use Rattle.card_check.specs.IsCard.{IsInLoadPages}
use Rattle.card_types.specs.Found.{aid_of}
use Rattle.card_types.specs.Represents.{thing_in}
use Rattle.card_types.specs.declared.found.Found.{Found}
use Rattle.card_types.specs.declared.tables.Entry.{Entry}
use Rattle.card_types.specs.declared.tables.LoadFile.{LoadFile}
use Rattle.card_types.specs.declared.tables.Tables.{Tables}
use Rattle.rec_store.specs.Places.{file_page}
use Rattle.rec_store.specs.Room.{HasFramesFor}
use Rattle.rec_store.proofs.Roomy.{of_slot}
use Rattle.registry.specs.Pages.{KeepsRoom, thing_pages}
use Rattle.registry.proofs.Frames.{frame_alone, keeps_alone}
use Rattle.registry.proofs.Replaced.{entry_moved, file_moved, of_lent}
use Rattle.registry.proofs.moving.move_to.Goals as goal

pub put_entry-requires-clause-room : goal.put_entry-requires-clause-room
put_entry-requires-clause-room g c = subst (λ (thing : Found). HasFramesFor (thing_pages thing) c.args.records.now.staged) c.in-Entry.is c.requires.room

pub set_file-requires-clause-roomy : goal.set_file-requires-clause-roomy
set_file-requires-clause-roomy g c =
    let slot = c.in-File.slot in
    let file = c.unwrap-file.result.now in
    let there : thing_in c.deref-in-File.result.now slot ≡ Some file = search rules in
    let slots = c.deref-in-File.ensures.value ∙ ap (λ (t : Tables). t.files.items) c.tables-in-File.ensures.tables in
    let roomy : IsInLoadPages file = subst (λ (o : Option LoadFile). IfSome o IsInLoadPages) (ap (λ (s : List (Option LoadFile)). thing_in s slot) (sym slots) ∙ there) (of_slot IsInLoadPages c.args.records.now.tables.files.items slot c.tables-in-File.ensures.roomy.files) in
    record { size = roomy.size; pages = roomy.pages }

pub set_file-requires-clause-frame : goal.set_file-requires-clause-frame
set_file-requires-clause-frame g c =
    let staged = c.args.records.now.staged in
    let page = file_page c.in-File.slot in
    frame_alone staged page (subst (λ (thing : Found). HasFramesFor (thing_pages thing) staged) c.in-File.is c.requires.room)

pub returns-in-Entry-clause-said : goal.returns-in-Entry-clause-said
returns-in-Entry-clause-said g c page said aid named says well =
    let slot = c.in-Entry.slot in
    let before = c.args.records.now.tables in
    let entry = c.unwrap-entry.result.now in
    let there : thing_in c.deref.result.now slot ≡ Some entry = search rules in
    let at = of_lent (λ (s : List (Option Entry)). thing_in s slot ≡ Some entry) (λ (t : Tables). t.entries.items) before c.tables.result.now c.deref.result.now c.tables.ensures.tables c.deref.ensures.value there in
    entry_moved page before c.put_entry.new.records.tables said says slot entry at well aid (subst (λ (thing : Found). aid_of before thing ≡ Some aid) c.in-Entry.is named) c.args.domain c.put_entry.ensures.tables

pub returns-in-Entry-clause-room : goal.returns-in-Entry-clause-room
returns-in-Entry-clause-room g c =
    subst (λ (thing : Found). KeepsRoom (thing_pages thing) c.args.records.now.staged c.put_entry.new.records.staged) (sym c.in-Entry.is) c.put_entry.ensures.room

pub returns-in-File-clause-said : goal.returns-in-File-clause-said
returns-in-File-clause-said g c page said aid named says well =
    let slot = c.in-File.slot in
    let before = c.args.records.now.tables in
    let file = c.unwrap-file.result.now in
    let there : thing_in c.deref-in-File.result.now slot ≡ Some file = search rules in
    let at = of_lent (λ (s : List (Option LoadFile)). thing_in s slot ≡ Some file) (λ (t : Tables). t.files.items) before c.tables-in-File.result.now c.deref-in-File.result.now c.tables-in-File.ensures.tables c.deref-in-File.ensures.value there in
    file_moved page before c.set_file.new.self.tables said says slot file at well aid (subst (λ (thing : Found). aid_of before thing ≡ Some aid) c.in-File.is named) c.args.domain c.set_file.ensures.tables

pub returns-in-File-clause-room : goal.returns-in-File-clause-room
returns-in-File-clause-room g c =
    let staged = c.args.records.now.staged in
    let after = c.set_file.new.self.staged in
    subst (λ (thing : Found). KeepsRoom (thing_pages thing) staged after) (sym c.in-File.is)
    (keeps_alone staged (file_page c.in-File.slot) after c.set_file.ensures.staged)
