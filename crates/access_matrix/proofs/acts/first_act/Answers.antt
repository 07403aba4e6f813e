use Rattle.access_matrix.proofs.LaterKinds.{first_of_all, if_some}
use Rattle.access_matrix.proofs.acts.first_act.Goals as goal

pub returns-clause-some : goal.returns-clause-some
returns-clause-some c = if_some _ _ c.first_from.result (first_of_all c.args.tables.now) c.first_from.ensures.some
