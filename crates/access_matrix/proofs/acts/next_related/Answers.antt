use Rattle.access_matrix.proofs.ActPlaces.{related_follows}
use Rattle.access_matrix.proofs.acts.next_related.Goals as goal

pub returns-in-Some-clause-some : goal.returns-in-Some-clause-some
returns-in-Some-clause-some c = (related_follows c.args.tables.now).0 _ _ c.in-Some.ensures.some

pub returns-in-None-clause-none : goal.returns-in-None-clause-none
returns-in-None-clause-none c = (related_follows c.args.tables.now).1 _ c.in-None.ensures.none
