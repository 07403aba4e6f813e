use Rattle.access_matrix.proofs.Scans.{next_domain_is, no_next_domain}
use Rattle.access_matrix.proofs.following.next_domain.Goals as goal

pub returns-in-Some-clause-some : goal.returns-in-Some-clause-some
returns-in-Some-clause-some c =
    next_domain_is c.args.tables.now _ c.in-Some.found.slot c.in-Some.found.thing.now (rw c.deref.ensures.value at c.in-Some.ensures.some)

pub returns-in-None-clause-none : goal.returns-in-None-clause-none
returns-in-None-clause-none c = no_next_domain c.args.tables.now _ (rw c.deref.ensures.value at c.in-None.ensures.none)
