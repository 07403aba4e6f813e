use Rattle.access_matrix.proofs.Scans.{next_entry_is, no_next_entry}
use Rattle.access_matrix.proofs.following.next_entry.Goals as goal

pub returns-in-Some-clause-some : goal.returns-in-Some-clause-some
returns-in-Some-clause-some c =
    next_entry_is c.args.tables.now _ c.in-Some.found.slot c.in-Some.found.thing.now (rw c.deref.ensures.value at c.in-Some.ensures.some)

pub returns-in-None-clause-none : goal.returns-in-None-clause-none
returns-in-None-clause-none c = no_next_entry c.args.tables.now _ (rw c.deref.ensures.value at c.in-None.ensures.none)
