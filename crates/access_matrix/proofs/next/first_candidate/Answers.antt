use Rattle.access_matrix.proofs.Candidates.{first_candidate_is}
use Rattle.access_matrix.proofs.next.first_candidate.Goals as goal

pub returns-in-Some-first_act-clause-some : goal.returns-in-Some-first_act-clause-some
returns-in-Some-first_act-clause-some c =
    first_candidate_is c.args.tables.now c.in-Some.domain c.in-Some-first_act.act c.in-Some.ensures.some c.in-Some-first_act.ensures.some
