use Rattle.std.proofs.Common.{inl, inr, sym, ◌∙◌}
use Rattle.content_rules.proofs.extradition.is_barred.Goals as goal

pub returns-then-is_out_of_reach : goal.returns-then-is_out_of_reach
returns-then-is_out_of_reach c page admitted acts is named =
    ((λ so. inl ((c.is_out_of_reach.ensures page admitted acts is named).0 c.if-is_out_of_reach.true)), (λ fails. c.if-is_out_of_reach.true))

pub returns-else-is_out_of_reach : goal.returns-else-is_out_of_reach
returns-else-is_out_of_reach c page admitted acts is named = (
  λ so. inr ((c.is_unapprovable.ensures page admitted acts is named).0 so),
  λ fails. elim fails [
    | inl out ↦ (let clash = sym ((c.is_out_of_reach.ensures page admitted acts is named).1 out) ∙ c.if-is_out_of_reach.false in cc)
    | inr unapprovable ↦ (c.is_unapprovable.ensures page admitted acts is named).1 unapprovable
  ],
)
