use Rattle.std.proofs.Common.{inl, inr, Some, ap, ◌∙◌}
use Rattle.std.proofs.lemmas.Bool.{false≢true, iff_false, not_from_false}
use Rattle.policy_slots.proofs.HoldsTold.{holds_told, lacks_told}
use Rattle.content_rules.proofs.delete_object.is_barred.Goals as goal

pub returns-then-holds : goal.returns-then-holds
returns-then-holds c page admitted acts is at =
    let told = holds_told page c.args.tables.now c.args.domain admitted acts _ c.holds.result (rw c.deref.ensures.value at c.holds.ensures) in (
      λ so. absurd (false≢true so),
      λ fails. absurd (fails.0 (told.0 c.if-holds.true)),
    )

pub returns-then-not-may_manage : goal.returns-then-not-may_manage
returns-then-not-may_manage c page admitted acts is at =
    let tables = c.args.tables.now in
    let lacks = lacks_told page tables c.args.domain admitted acts _ c.holds.result (rw c.deref.ensures.value at c.holds.ensures) c.if-holds.false in
    ((λ so. (lacks, inl (iff_false (c.may_manage.ensures page admitted acts) c.if-not-may_manage.true))), (λ fails. not_from_false c.may_manage.result c.if-not-may_manage.true))

pub returns-else-not-may_manage : goal.returns-else-not-may_manage
returns-else-not-may_manage c page admitted acts is at =
    let tables = c.args.tables.now in
    let lacks = lacks_told page tables c.args.domain admitted acts _ c.holds.result (rw c.deref.ensures.value at c.holds.ensures) c.if-holds.false in
    let may = (c.may_manage.ensures page admitted acts).0 c.if-not-may_manage.false in
    let told = c.is_out_of_charge.ensures page admitted is.asked.aid acts (at ∙ ap Some is.aid) is.related in (
      λ so. (lacks, inr (told.0 so)),
      λ fails. elim fails.1 [
        | inl unmanaged ↦ absurd (unmanaged may)
        | inr some ↦ told.1 some
      ],
    )
