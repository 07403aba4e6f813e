use Rattle.access_matrix.proofs.Scans.{domain_with, no_domain_with}
use Rattle.access_matrix.proofs.following.find_domain.Goals as goal

pub returns-in-Some-clause-some : goal.returns-in-Some-clause-some
returns-in-Some-clause-some c =
    let is = rw c.deref.ensures.value at c.in-Some.ensures.some in
    domain_with c.args.tables.now c.args.aid.now c.in-Some.found.slot c.in-Some.found.thing.now is.at is.fitting

pub returns-in-None-clause-none : goal.returns-in-None-clause-none
returns-in-None-clause-none c = no_domain_with c.args.tables.now c.args.aid.now (rw c.deref.ensures.value at c.in-None.ensures.none)
