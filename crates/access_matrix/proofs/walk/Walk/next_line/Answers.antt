use Rattle.std.proofs.Common.{◌<◌, Some, ap, sym, subst, ◌∙◌}
use Rattle.std.specs.Option.{option_map}
use Rattle.access_matrix.specs.Lines.{line_as}
use Rattle.access_matrix.specs.Next.{IsPast, place_order}
use Rattle.access_matrix.specs.Rights.{IsNextRight, right_key}
use Rattle.access_matrix.specs.Text.{line_of}
use Rattle.access_matrix.specs.Walks.{rights_left}
use Rattle.access_matrix.specs.declared.deed.Right.{Right}
use Rattle.access_matrix.proofs.ByNames.{line_is, next_right_is, no_right_after}
use Rattle.access_matrix.proofs.Counted.{fewer_left}
use Rattle.access_matrix.proofs.walk.Walk.next_line.Goals as goal

pub right_of-right-requires : goal.right_of-right-requires
right_of-right-requires c =
    let order = c.requires.in_order in
    let next = c.in-Some.ensures.some order.page order.said order.says in
    record { in_order = order; used = next.has.0.0 }

pub returns-in-Some-clause-next : goal.returns-in-Some-clause-next
returns-in-Some-clause-next c page said says is =
    subst (IsNextRight said c.args.self.now.last) (sym c.right_of-right.ensures)
    (next_right_is page c.args.tables.now said says c.args.self.now.last c.in-Some.candidate (rw c.as_ref.ensures.value at (c.in-Some.ensures.some page said says)))

pub returns-in-Some-clause-line : goal.returns-in-Some-clause-line
returns-in-Some-clause-line c page said says is =
    let next = c.in-Some.ensures.some page said says in
    c.push_right.ensures.written ∙ (λ i. line_as (c.is_locked.ensures i) (c.right_of-right.ensures i))
    ∙ line_is page c.args.tables.now said says c.in-Some.candidate next.has.0.0 ∙ ap (line_of said) (sym c.right_of-right.ensures)

pub returns-in-None-clause-end : goal.returns-in-None-clause-end
returns-in-None-clause-end c page said says is =
    no_right_after page c.args.tables.now said says c.args.self.now.last (rw c.as_ref.ensures.value at (c.in-None.ensures.none page said says))

pub returns-in-Some-clause-fewer : goal.returns-in-Some-clause-fewer
returns-in-Some-clause-fewer c is =
    let order = c.requires.in_order in
    let tables = c.args.tables.now in
    let last = c.args.self.now.last in
    let next = rw c.as_ref.ensures.value at (c.in-Some.ensures.some order.page order.said order.says) in
    subst (λ (right : Right). rights_left tables (Some right) < rights_left tables last) (sym c.right_of-right.ensures)
    (fewer_left tables last c.in-Some.candidate next.has.0.0
    (subst (IsPast place_order (option_map right_key last)) (sym next.has.0.1) next.past))
