use Rattle.std.proofs.Common.{inl, inr}
use Rattle.access_matrix.specs.Next.{deed_place}
use Rattle.access_matrix.proofs.Candidates.{IsLeft, candidate_further, candidate_of_next, no_candidate_left}
use Rattle.access_matrix.proofs.next.candidate_after.Goals as goal
use Rattle.access_matrix.proofs.next.candidate_after.Goals.{in-Some+in_default-next_act, in_default}

pub returns-in-Some-next_act-clause-some : goal.returns-in-Some-next_act-clause-some
returns-in-Some-next_act-clause-some c =
    candidate_further c.args.tables.now c.in-Some.domain c.in-Some-next_act.act c.args.last.now.domain (deed_place c.args.last.now.deed) c.in-Some.ensures.some
    c.in-Some-next_act.ensures.some

pub returns-in_default-next_domain-clause-none : goal.returns-in_default-next_domain-clause-none
returns-in_default-next_domain-clause-none c =
    let last = c.args.last.now in
    let left : IsLeft c.args.tables.now last.domain (deed_place last.deed) = elim c.match-find_domain.branch [
      | in-Some+in_default-next_act w ↦ inr w.in_default-next_act.ensures.none
      | in_default w ↦ inl w.in_default.ensures.none
    ] in
    no_candidate_left c.args.tables.now last.domain (deed_place last.deed) left c.in_default-next_domain.ensures.none

pub returns-in-Some-first_act-clause-some : goal.returns-in-Some-first_act-clause-some
returns-in-Some-first_act-clause-some c =
    let last = c.args.last.now in
    let left : IsLeft c.args.tables.now last.domain (deed_place last.deed) = elim c.match-find_domain.branch [
      | in-Some+in_default-next_act w ↦ inr w.in_default-next_act.ensures.none
      | in_default w ↦ inl w.in_default.ensures.none
    ] in
    candidate_of_next c.args.tables.now last.domain (deed_place last.deed) left c.in-Some-next_domain.domain c.in-Some-first_act.act
    c.in-Some-next_domain.ensures.some c.in-Some-first_act.ensures.some
