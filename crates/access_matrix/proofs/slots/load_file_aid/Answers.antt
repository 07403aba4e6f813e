use Rattle.std.proofs.Common.{◌≡◌, Some}
use Rattle.card_types.specs.Represents.{thing_in}
use Rattle.access_matrix.proofs.AidsInSlots.{file_has_aid}
use Rattle.access_matrix.proofs.slots.load_file_aid.Goals as goal

pub returns-clause-aid : goal.returns-clause-aid
returns-clause-aid c =
    let found = rw c.unwrap.ensures at c.in_slot.ensures in
    let at : thing_in c.args.tables.now.files.items c.args.slot ≡ Some c.unwrap.result.now = rw c.deref.ensures.value at found in
    file_has_aid c.args.tables.now c.requires.in_order c.args.slot c.unwrap.result.now at
