-- For the code inside. The rule on its form that a command breaks.
use Rattle.std.specs.Prelude.{◌≡◌, ◌⊎◌, ℕ, List}
use Rattle.policy_machine.specs.CommandForm.{CommandForm}
use Rattle.policy_machine.specs.Commands.{HasDataField, HasParameters}
use Rattle.policy_machine.specs.declared.rule.Rule.TheVariants.{PS}
use Rattle.policy_machine.specs.declared.rule.Rule.{Rule}
use Rattle.policy_machine.specs.declared.rule.RulePS.TheVariants.{P, S}

-- the rule on its form that a command breaks: P1 and P2 are judged before the data field
abbrev pub IsMalformed : ℕ → ℕ → ℕ → List ℕ → Rule → Type 0
IsMalformed ins p1 p2 body found =
    ((found ≡ PS P) × (HasParameters ins p1 p2 → ⊥))
    ⊎ ((found ≡ PS S) × HasParameters ins p1 p2 × (HasDataField ins p1 p2 body → ⊥))

-- the form does not take this P1 and P2, or with these not this data field
abbrev pub FormRefuses : CommandForm → ℕ → ℕ → List ℕ → Rule → Type 0
FormRefuses form p1 p2 body found =
    ((found ≡ PS P) × (form.takes p1 p2 → ⊥))
    ⊎ ((found ≡ PS S) × form.takes p1 p2 × (form.takes_field p1 p2 body → ⊥))
