use Rattle.std.proofs.Common.{sym, ◌∙◌}
use Rattle.std.proofs.lemmas.Bool.{false_from_ne_true, not-true, not_from_false}
use Rattle.policy_slots.proofs.HoldsTold.{holds_told, lacks_told}
use Rattle.access_matrix.proofs.approval.deletes_as_delegate.Goals as goal

pub returns-then-is_delegate : goal.returns-then-is_delegate
returns-then-is_delegate c page admitted acts =
    let tables = c.args.tables.now in
    let delegate = c.is_delegate.ensures page admitted acts in
    let deletes = holds_told page tables c.args.domain admitted acts _ c.holds.result (rw c.deref.ensures.value at c.holds.ensures) in
    let lacks = lacks_told page tables c.args.domain admitted acts _ c.holds.result (rw c.deref.ensures.value at c.holds.ensures) in (
      λ so. (delegate.0 c.if-is_delegate.true, lacks (not-true c.holds.result so)),
      λ delegated. not_from_false c.holds.result (false_from_ne_true c.holds.result (λ has. delegated.1 (deletes.0 has))),
    )

pub returns-else-is_delegate : goal.returns-else-is_delegate
returns-else-is_delegate c page admitted acts = (
  λ so. (let clash = sym so ∙ c.if-is_delegate.false in cc),
  λ delegated. (let clash = sym ((c.is_delegate.ensures page admitted acts).1 delegated.0) ∙ c.if-is_delegate.false in cc),
)
