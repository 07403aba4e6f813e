use Rattle.std.proofs.Common.{inl, inr}
use Rattle.policy_slots.proofs.HoldsTold.{holds_told, lacks_told}
use Rattle.policy_slots.proofs.delegation.may_manage.Goals as goal

pub returns-then-holds : goal.returns-then-holds
returns-then-holds c page admitted acts =
    let own = holds_told page c.args.tables.now c.args.domain admitted acts _ c.holds.result (rw c.deref.ensures.value at c.holds.ensures) in
    ((λ so. inl (own.0 c.if-holds.true)), (λ manages. c.if-holds.true))

pub returns-else-holds : goal.returns-else-holds
returns-else-holds c page admitted acts =
    let tables = c.args.tables.now in
    let lacks = lacks_told page tables c.args.domain admitted acts _ c.holds.result (rw c.deref.ensures.value at c.holds.ensures) c.if-holds.false in
    let delegated = holds_told page tables c.args.domain admitted acts _ c.holds-else-holds.result (rw c.deref-else-holds.ensures.value at c.holds-else-holds.ensures) in (
      λ so. inr (delegated.0 so),
      λ manages. elim manages [
        | inl own ↦ absurd (lacks own)
        | inr other ↦ delegated.1 other
      ],
    )
