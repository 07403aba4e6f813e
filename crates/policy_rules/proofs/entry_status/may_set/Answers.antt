use Rattle.std.proofs.Common.{inl, inr, sym, ap, ◌∙◌, Some}
use Rattle.policy_rules.proofs.entry_status.may_set.Goals as goal

pub returns-then-may_lock : goal.returns-then-may_lock
returns-then-may_lock c page admitted acts is named =
    let told = c.may_lock.ensures page admitted admitted.command.body acts (named ∙ ap Some is.aid) in
    ((λ so. inl (told.0 c.if-may_lock.true)), (λ may. c.if-may_lock.true))

pub returns-else-may_lock : goal.returns-else-may_lock
returns-else-may_lock c page admitted acts is named =
    let told = c.may_lock.ensures page admitted admitted.command.body acts (named ∙ ap Some is.aid) in
    let itself = c.personalizes_itself.ensures page admitted acts is in (
      λ so. inr (itself.0 so),
      λ may. elim may [
        | inl locks ↦ (let clash = sym (told.1 locks) ∙ c.if-may_lock.false in cc)
        | inr asks ↦ itself.1 asks
      ],
    )
