use Rattle.std.proofs.Common.{inl, inr}
use Rattle.access_matrix.proofs.ActPlaces.{IsMoved, move_further, next_moved, none_moved}
use Rattle.access_matrix.proofs.acts.next_move.Goals as goal
use Rattle.access_matrix.proofs.acts.next_move.Goals.{in-Some+in_default-next_domain, in_default}

pub returns-in-Some-next_domain-clause-some : goal.returns-in-Some-next_domain-clause-some
returns-in-Some-next_domain-clause-some c =
    move_further c.args.tables.now c.in-Some.found c.in-Some-next_domain.domain c.args.thing.now c.args.goal.now c.in-Some.ensures.some c.in-Some-next_domain.ensures.some

pub returns-in_default-next_thing-clause-none : goal.returns-in_default-next_thing-clause-none
returns-in_default-next_thing-clause-none c =
    let moved : IsMoved c.args.tables.now c.args.thing.now c.args.goal.now = elim c.match-find.branch [
      | in-Some+in_default-next_domain w ↦ inr w.in_default-next_domain.ensures.none
      | in_default w ↦ inl w.in_default.ensures.none
    ] in
    none_moved c.args.tables.now c.args.thing.now c.args.goal.now moved c.in_default-next_thing.ensures.none

pub returns-in-Some-next_domain-2-clause-some : goal.returns-in-Some-next_domain-2-clause-some
returns-in-Some-next_domain-2-clause-some c =
    let moved : IsMoved c.args.tables.now c.args.thing.now c.args.goal.now = elim c.match-find.branch [
      | in-Some+in_default-next_domain w ↦ inr w.in_default-next_domain.ensures.none
      | in_default w ↦ inl w.in_default.ensures.none
    ] in
    next_moved c.args.tables.now c.args.thing.now c.args.goal.now moved c.in-Some-next_thing.next c.in-Some-next_domain-2.domain c.in-Some-next_thing.ensures.some
    c.in-Some-next_domain-2.ensures.some
