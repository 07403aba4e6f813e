use Rattle.std.proofs.Common.{Some, subst}
use Rattle.std.specs.Prelude.{IfNone, option_copied, option_map}
use Rattle.access_matrix.specs.Next.{HasCandidate, NoneNext, place_order}
use Rattle.access_matrix.specs.Rights.{right_key}
use Rattle.access_matrix.specs.declared.deed.Right.{Right}
use Rattle.access_matrix.proofs.Awaited.{allowed_next, awaits_after, fewer_turns, stands_after}
use Rattle.access_matrix.proofs.next.next_right.Goals as goal

pub returns-then-may-clause-some : goal.returns-then-may-clause-some
returns-then-may-clause-some c page said says =
    let stands = rw c.in-Some.is at c.loop-next.invariant.stands in
    let awaits = rw c.in-Some.is at (c.loop-next.invariant.awaits page said says) in
    let may = c.may.ensures page said says in
    allowed_next c.args.tables.now _ said c.in-Some.candidate stands awaits (may.0 c.if-may.true)

pub loop-next-smaller : goal.loop-next-smaller
loop-next-smaller c =
    let some = rw c.right_of.ensures at c.candidate_after-next.ensures.some in
    rw c.in-Some.is (fewer_turns c.args.tables.now c.in-Some.candidate c.candidate_after-next.result some)

pub loop-next-preserved : goal.loop-next-preserved
loop-next-preserved c =
    let some = rw c.right_of.ensures at c.candidate_after-next.ensures.some in
    let none = subst (λ (right : Right). IfNone c.candidate_after-next.result (NoneNext (HasCandidate c.args.tables.now) place_order (Some (right_key right))))
    c.right_of.ensures c.candidate_after-next.ensures.none in
    let stands = rw c.in-Some.is at c.loop-next.invariant.stands in
    let last = option_map right_key (option_copied c.args.last) in
    record {
      stands = stands_after c.args.tables.now last c.in-Some.candidate stands c.candidate_after-next.result some;
      awaits = λ page said says.
          (let may = c.may.ensures page said says in
          awaits_after c.args.tables.now last c.in-Some.candidate stands said (rw c.in-Some.is at (c.loop-next.invariant.awaits page said says))
          (λ allows. (let is = may.1 allows in cc)) c.candidate_after-next.result some none);
    }

pub returns-clause-none : goal.returns-clause-none
returns-clause-none c page said says = rw c.in_default.is at (c.loop-next.invariant.awaits page said says)
