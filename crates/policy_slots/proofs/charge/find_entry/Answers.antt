use Rattle.card_types.proofs.FoundNames.{found_file_named, none_found_none_named}
use Rattle.policy_machine.proofs.FileApart.{file_apart}
use Rattle.policy_slots.proofs.charge.find_entry.Goals as goal

pub returns-in-Some-File-clause-none : goal.returns-in-Some-File-clause-none
returns-in-Some-File-clause-none c page said says well =
    let file = found_file_named page c.args.tables.now said says _ c.args.aid.now (rw c.in-Some-File.field-0-is at c.in-Some-File.ensures.some) in
    file_apart said well c.args.aid.now _ file.2

pub returns-in-None-clause-none : goal.returns-in-None-clause-none
returns-in-None-clause-none c page said says well = (none_found_none_named page c.args.tables.now said says c.args.aid.now c.in-None.ensures.none).0
