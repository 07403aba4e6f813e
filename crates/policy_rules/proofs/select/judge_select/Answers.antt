use Rattle.card_types.proofs.EntryNames.{least_entry, no_entry}
use Rattle.policy_machine.specs.Select.{fits_select}
use Rattle.policy_rules.proofs.select.judge_select.Goals as goal

pub returns-in-Some-clause-found : goal.returns-in-Some-clause-found
returns-in-Some-clause-found c page said says =
    least_entry page c.args.tables.now said says (fits_select said.life c.args.partial.now) c.in-Some.found.slot c.in-Some.found.thing.now
    (rw (c.deref.ensures.value, says.life) at c.in-Some.ensures.some)

pub returns-in-None-clause-none : goal.returns-in-None-clause-none
returns-in-None-clause-none c page said says =
    no_entry page c.args.tables.now said says (fits_select said.life c.args.partial.now)
    (rw (c.deref.ensures.value, says.life) at c.in-None.ensures.none)
