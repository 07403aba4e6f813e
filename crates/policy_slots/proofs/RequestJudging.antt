-- How a request of a form whose commands a token may approve is judged: the rules on the approval, and those that come first.
use Rattle.std.proofs.Common.{◌≡◌, List, Bool, true, false, Option, None, Some, inl, inr, refl, sym, subst}
use Rattle.std.specs.Option.{option_map}
use Rattle.std.specs.Prelude.{map}
use Rattle.policy_machine.proofs.FirstJoined.{first_after, first_within}
use Rattle.policy_machine.proofs.FirstLike.{first_like, first_of_group, none_first}
use Rattle.policy_machine.proofs.ManagedJudging.{two_pass}
use Rattle.policy_slots.specs.Prelude.{Admitted, Approval, AskedFails, IsBroughtFor, IsFirst, IsTokenForm, JudgedForm, ManagementFails, OfEach, ReceiptFails, TokenFails, approval_of, receipt_rules, token_rules}
use Rattle.policy_machine.specs.declared.delegation.RuleRC.{RuleRC}
use Rattle.policy_machine.specs.declared.delegation.RuleRC.TheVariants.{RC1}
use Rattle.policy_machine.specs.declared.delegation.RuleTK.{RuleTK}
use Rattle.policy_machine.specs.declared.management.RuleM.{RuleM}
use Rattle.policy_machine.specs.declared.management.RuleM.TheVariants.{M1, M2}
use Rattle.policy_machine.specs.declared.rule.Rule.{Rule}
use Rattle.policy_machine.specs.declared.rule.Rule.TheVariants.{RC, TK}
use Rattle.policy_slots.specs.declared.delegation.Signed.{Signed}

module _ (form : JudgedForm) (receipted : Bool) (lawful : IsTokenForm form receipted) (admitted : Admitted) where
  -- the rules of card content management pass
  pub management_passes : (ManagementFails admitted M1 → ⊥) × (ManagementFails admitted M2 → ⊥)
      → OfEach (λ rule. ManagementFails admitted rule → ⊥) form.first_rules
  management_passes both = subst (OfEach (λ (rule : RuleM). ManagementFails admitted rule → ⊥)) (sym lawful.first_rules) (two_pass both)

  module _ (asked : form.Asked) where
    abbrev Fails : Rule → Type 0
    Fails = AskedFails form admitted asked

    -- the rules on the approval are those on the token, and then the one on the receipt
    joined : (found : Option Rule) → IsFirst Fails (map TK token_rules) None → IsFirst Fails (receipt_rules receipted) found
        → IsFirst Fails form.delegation.rules found
    joined found none first =
        subst (λ (rules : List Rule). IsFirst Fails rules found) (sym lawful.approval_rules)
        (first_after Fails (receipt_rules receipted) (map TK token_rules) found none first)

    -- none of them fails for a command that is not delegated
    pub undelegated : (form.delegation.is_delegated admitted → ⊥) → IsFirst Fails form.delegation.rules None
    undelegated none =
        joined None (first_of_group TK Fails token_rules None (none_first (λ (rule : RuleTK). Fails (TK rule)) (λ rule fails. none fails.0) token_rules)) (by receipted)
      where
        by : (some : Bool) → IsFirst Fails (receipt_rules some) None
        by true = inr (λ fails. none fails.0, refl)
        by false = refl

    module _ (delegated : form.delegation.is_delegated admitted) (brought : Signed) (is : IsBroughtFor form admitted.command asked brought) where
      abbrev TokenFailsHere : RuleTK → Type 0
      TokenFailsHere = TokenFails admitted (approval_of brought)

      token_first : (found : Option RuleTK) → IsFirst TokenFailsHere token_rules found → IsFirst Fails (map TK token_rules) (option_map TK found)
      token_first found first =
          first_of_group TK Fails token_rules found
          (first_like (TokenFails admitted (form.delegation.approval asked)) (λ (rule : RuleTK). Fails (TK rule))
          (λ rule fails. (delegated, fails)) (λ rule fails. fails.1) token_rules found
          (subst (λ (approval : Approval). IsFirst (TokenFails admitted approval) token_rules found) is.approval first))

      -- the token refuses
      pub by_token : (rule : RuleTK) → IsFirst TokenFailsHere token_rules (Some rule) → IsFirst Fails form.delegation.rules (Some (TK rule))
      by_token rule first =
          subst (λ (rules : List Rule). IsFirst Fails rules (Some (TK rule))) (sym lawful.approval_rules)
          (first_within Fails (receipt_rules receipted) (map TK token_rules) (TK rule) (token_first (Some rule) first))

      module _ (passes : IsFirst TokenFailsHere token_rules None) where
        -- it passes, and no receipt is made
        pub unreceipted : receipted ≡ false → IsFirst Fails form.delegation.rules None
        unreceipted none = joined None (token_first None passes) (subst (λ (some : Bool). IsFirst Fails (receipt_rules some) None) (sym none) refl)

        -- or the receipt decides
        pub receipted_so : (ReceiptFails admitted RC1 → ⊥) → IsFirst Fails form.delegation.rules None
        receipted_so may = joined None (token_first None passes) (by receipted)
          where
            by : (some : Bool) → IsFirst Fails (receipt_rules some) None
            by true = inr (λ fails. may fails.1, refl)
            by false = refl

        pub by_receipt : receipted ≡ true → (rule : RuleRC) → ReceiptFails admitted rule → IsFirst Fails form.delegation.rules (Some (RC rule))
        by_receipt some RC1 fails =
            joined (Some (RC RC1)) (token_first None passes)
            (subst (λ (is : Bool). IsFirst Fails (receipt_rules is) (Some (RC RC1))) (sym some) (inl ((delegated, fails), refl)))
