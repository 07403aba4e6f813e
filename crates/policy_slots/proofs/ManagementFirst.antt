-- The first rule that fails, of a list that begins with two of card content management.
use Rattle.std.proofs.Common.{◌≡◌, ◌⊎◌, List, ◌∷◌, Err, Ok, Option, Some, ap, subst, sym, inl, inr}
use Rattle.std.specs.Prelude.{IfErr, Result}
use Rattle.std.specs.Result.{IsErrAnd}
use Rattle.policy_machine.specs.Refusal.{IsFirst}
use Rattle.policy_machine.specs.declared.management.RuleM.TheVariants.{M1, M2, M3}
use Rattle.policy_machine.specs.declared.rule.Rule.{Rule}
use Rattle.policy_machine.specs.declared.rule.Rule.TheVariants.{M}

module _ (one two : Rule) (fails : Rule → Type 0) (rules : List Rule) where
  abbrev FailsOfTwo : Rule → Type 0
  FailsOfTwo rule = ((rule ≡ one) × fails one) ⊎ ((rule ≡ two) × (fails one → ⊥) × fails two)

  -- one of them fails
  two_first : (rule : Rule) → FailsOfTwo rule → IsFirst fails (one ∷ two ∷ rules) (Some rule)
  two_first rule (inl first) = inl (first.1, ap Some first.0)
  two_first rule (inr second) = inr (second.1, inl (second.2, ap Some second.0))

  -- the one that fails is handed on
  two_handed : {T : Type 0} (result : Result T Rule) (rule : Rule) → IsErrAnd result (λ r. r ≡ rule) → FailsOfTwo rule
      → IfErr result (λ r. IsFirst fails (one ∷ two ∷ rules) (Some r))
  two_handed (Ok value) rule handed failed = absurd handed
  two_handed (Err other) rule handed failed = subst (λ (r : Rule). IsFirst fails (one ∷ two ∷ rules) (Some r)) (sym handed) (two_first rule failed)

  -- none of them fails
  past_two : (found : Option Rule) → (fails one → ⊥) → (fails two → ⊥) → IsFirst fails rules found → IsFirst fails (one ∷ two ∷ rules) found
  past_two found first second rest = inr (first, inr (second, rest))

module _ (fails : Rule → Type 0) (rules : List Rule) where
  pub management_handed : {T : Type 0} (result : Result T Rule) (rule : Rule) → IsErrAnd result (λ r. r ≡ rule)
      → ((rule ≡ M M1) × fails (M M1)) ⊎ ((rule ≡ M M2) × (fails (M M1) → ⊥) × fails (M M2))
      → IfErr result (λ r. IsFirst fails (M M1 ∷ M M2 ∷ rules) (Some r))
  management_handed = two_handed (M M1) (M M2) fails rules

  pub after_management : (found : Option Rule) → (fails (M M1) → ⊥) → (fails (M M2) → ⊥) → IsFirst fails rules found
      → IsFirst fails (M M1 ∷ M M2 ∷ rules) found
  after_management = past_two (M M1) (M M2) fails rules

  -- where a life cycle state is set, the rule that fails is handed on
  pub setting_handed : {T : Type 0} (result : Result T Rule) (rule : Rule) → IsErrAnd result (λ r. r ≡ rule)
      → ((rule ≡ M M2) × fails (M M2)) ⊎ ((rule ≡ M M3) × (fails (M M2) → ⊥) × fails (M M3))
      → IfErr result (λ r. IsFirst fails (M M2 ∷ M M3 ∷ rules) (Some r))
  setting_handed = two_handed (M M2) (M M3) fails rules

  pub after_setting : (found : Option Rule) → (fails (M M2) → ⊥) → (fails (M M3) → ⊥) → IsFirst fails rules found
      → IsFirst fails (M M2 ∷ M M3 ∷ rules) found
  after_setting = past_two (M M2) (M M3) fails rules
