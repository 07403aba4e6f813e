use Rattle.std.proofs.Common.{◌≡◌, ◌+◌, ap, ◌∙◌}
use Rattle.access_matrix.specs.Kinds.{kind_number}
use Rattle.access_matrix.specs.Rights.{deed_kind}
use Rattle.access_matrix.proofs.LaterKinds.{if_none, if_some, next_of_kind, next_of_later, none_of_later}
use Rattle.access_matrix.proofs.acts.next_act.Goals as goal

pub returns-in-Some-clause-some : goal.returns-in-Some-clause-some
returns-in-Some-clause-some c = next_of_kind c.args.tables.now c.args.last.now c.in-Some.act c.in-Some.ensures.some

pub returns-in-Some-next-clause-some : goal.returns-in-Some-next-clause-some
returns-in-Some-next-clause-some c =
    let after : kind_number c.in-Some-next.later ≡ deed_kind c.args.last.now + 1 = c.in-Some-next.ensures ∙ ap (λ n. n + 1) c.of.ensures in
    if_some _ _ c.first_from.result (next_of_later c.args.tables.now c.args.last.now c.in-None.ensures.none (kind_number c.in-Some-next.later) after) c.first_from.ensures.some

pub returns-in-Some-next-clause-none : goal.returns-in-Some-next-clause-none
returns-in-Some-next-clause-none c =
    let after : kind_number c.in-Some-next.later ≡ deed_kind c.args.last.now + 1 = c.in-Some-next.ensures ∙ ap (λ n. n + 1) c.of.ensures in
    if_none _ _ c.first_from.result (none_of_later c.args.tables.now c.args.last.now c.in-None.ensures.none (kind_number c.in-Some-next.later) after) c.first_from.ensures.none
