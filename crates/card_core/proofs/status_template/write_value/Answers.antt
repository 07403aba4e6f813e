use Rattle.std.proofs.Common.{◌≡◌, Some, sym, subst, ◌∙◌}
use Rattle.card_core.specs.Prelude.{AFile, AnEntry, AreElements, IsThingAt, Thing, entry_of, file_of, status_parts, thing_in}
use Rattle.card_types.specs.declared.found.Found.{Found}
use Rattle.card_types.specs.declared.tables.Entry.{Entry}
use Rattle.card_types.specs.declared.tables.LoadFile.{LoadFile}
use Rattle.card_core.proofs.status_template.write_value.Goals as goal

pub returns-in-Entry-clause-parts : goal.returns-in-Entry-clause-parts
returns-in-Entry-clause-parts c page said named life at_thing =
    let tables = c.args.tables.now in
    let there = subst (λ (f : Found). IsThingAt page tables f named) c.in-Entry.is at_thing in
    let found : thing_in tables.entries.items c.in-Entry.slot ≡ Some c.unwrap-entry.result.now
    = rw c.deref.ensures.value at (rw c.unwrap-entry.ensures at c.in_slot.ensures) in
    let same : c.unwrap-entry.result.now ≡ there.0 = (let both = sym found ∙ there.1 in cc) in
    subst (λ (t : Thing). AreElements (status_parts said c.args.kind t) c.write_entry.new.value.items) (sym there.2)
    (subst (λ (e : Entry). AreElements (status_parts said c.args.kind (AnEntry (entry_of tables.entries.items tables.files.items e))) c.write_entry.new.value.items) same
    (c.write_entry.ensures.parts said c.args.kind life))

pub returns-in-File-clause-parts : goal.returns-in-File-clause-parts
returns-in-File-clause-parts c page said named life at_thing =
    let tables = c.args.tables.now in
    let there = subst (λ (f : Found). IsThingAt page tables f named) c.in-File.is at_thing in
    let found : thing_in tables.files.items c.in-File.slot ≡ Some c.unwrap-file.result.now
    = rw c.deref-in-File.ensures.value at (rw c.unwrap-file.ensures at c.in_slot-in-File.ensures) in
    let same : c.unwrap-file.result.now ≡ there.0 = (let both = sym found ∙ there.1 in cc) in
    subst (λ (t : Thing). AreElements (status_parts said c.args.kind t) c.write_file.new.value.items) (sym there.2)
    (subst (λ (f : LoadFile). AreElements (status_parts said c.args.kind (AFile (file_of page tables.entries.items f))) c.write_file.new.value.items) same
    (c.write_file.ensures.parts page said))
