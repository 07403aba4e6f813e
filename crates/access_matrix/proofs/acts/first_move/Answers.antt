use Rattle.access_matrix.proofs.ActPlaces.{first_move_is}
use Rattle.access_matrix.proofs.acts.first_move.Goals as goal

pub returns-in-Some-next_domain-clause-some : goal.returns-in-Some-next_domain-clause-some
returns-in-Some-next_domain-clause-some c =
    first_move_is c.args.tables.now c.in-Some.thing c.in-Some-next_domain.domain c.in-Some.ensures.some c.in-Some-next_domain.ensures.some
