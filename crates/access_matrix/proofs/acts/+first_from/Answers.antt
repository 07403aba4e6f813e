use Rattle.access_matrix.specs.Kinds.{kind_number}
use Rattle.access_matrix.proofs.LaterKinds.{first_of_kind, first_of_later, if_some}
use Rattle.access_matrix.proofs.acts.+first_from.Goals as goal

pub returns-in-Some-clause-some : goal.returns-in-Some-clause-some
returns-in-Some-clause-some t c = first_of_kind c.args.tables.now (kind_number c.args.kind) c.in-Some.act c.in-Some.ensures.some

pub returns-in-Some-next-clause-some : goal.returns-in-Some-next-clause-some
returns-in-Some-next-clause-some t c =
    if_some _ _ c.first_from.result (first_of_later c.args.tables.now (kind_number c.args.kind) c.in-None.ensures.none (kind_number c.in-Some-next.later) c.in-Some-next.ensures)
    c.first_from.ensures.some
