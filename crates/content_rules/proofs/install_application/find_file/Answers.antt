use Rattle.card_types.proofs.FoundNames.{none_found_none_named}
use Rattle.policy_slots.proofs.FileCharge.{entry_no_file}
use Rattle.content_rules.proofs.install_application.find_file.Goals as goal

pub returns-in-Some-Entry-clause-none : goal.returns-in-Some-Entry-clause-none
returns-in-Some-Entry-clause-none c page said says well =
    entry_no_file page c.args.tables.now said says c.args.aid.now well _ (rw c.in-Some-Entry.field-0-is at c.in-Some-Entry.ensures.some)

pub returns-in-None-clause-none : goal.returns-in-None-clause-none
returns-in-None-clause-none c page said says well = (none_found_none_named page c.args.tables.now said says c.args.aid.now c.in-None.ensures.none).1
