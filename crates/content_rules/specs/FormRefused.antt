-- For the code inside. The rule on its form that a command of card content management breaks.
use Rattle.std.specs.Prelude.{ℕ, List}
use Rattle.policy_machine.specs.Malformed.{FormRefuses}
use Rattle.policy_machine.specs.ManagedForm.{JudgedForm, judged_form}
use Rattle.policy_machine.specs.declared.rule.Rule.{Rule}

-- the form does not take this P1 and P2, or with these not this data field
abbrev pub IsFormRefused : JudgedForm → ℕ → ℕ → List ℕ → Rule → Type 0
IsFormRefused form = FormRefuses (judged_form form (λ admitted aids. ⊥) (λ admitted done. ⊥))
