use Rattle.std.proofs.Common.{inl, inr, refl}
use Rattle.policy_rules.proofs.get_status.parse_get_status.Goals as goal

pub returns-in-None : goal.returns-in-None
returns-in-None c =
    inr (
      refl,
      inl (c.takes_parameters.ensures.0 c.if-not-takes_parameters.false),
      λ field. elim field [
        | inl takes ↦ c.in-None.ensures.none takes.2.0 takes.2.1
        | inr none ↦ none
      ],
    )
