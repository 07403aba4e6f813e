-- Which rule on the approval of a delegated command fails first.
use Rattle.std.proofs.Common.{◌≡◌, ◌≢◌, inl, inr, List, None, Some, ℕ, length, refl, ap, sym, ◌∙◌}
use Rattle.policy_machine.specs.Prelude.{Admitted, Approval, IsFirst, IsNearestHolder, IsVerifier, Key, NoVerifier, ReceiptFails, Registry, TokenFails, acting, domain_of, has_with_key, key_named, token, token_rules}
use Rattle.domain_tree.proofs.Paths.{one_first_above}
use Rattle.policy_machine.specs.declared.delegation.RuleRC.{RuleRC}
use Rattle.policy_machine.specs.declared.delegation.RuleRC.TheVariants.{RC1}
use Rattle.policy_machine.specs.declared.delegation.RuleTK.TheVariants.{TK2, TK3}

-- there is one nearest holder, and one key of it
pub one_holder : (registry : Registry) (privilege version : ℕ) (domain x y : List ℕ) (key other : Key)
    → IsNearestHolder registry privilege version domain x key → IsNearestHolder registry privilege version domain y other → (x ≡ y) × (key ≡ other)
one_holder registry privilege version domain x y key other one another =
    let same = one_first_above (domain_of registry) (has_with_key registry privilege version) domain x y one.above another.above in
    let keys : Some key ≡ Some other = sym one.key_is ∙ ap (λ (aid : List ℕ). key_named registry aid version 1) same ∙ another.key_is in
    (same, cc)

module _ (admitted : Admitted) (approval : Approval) (long : length approval.token ≡ 16) where
  pub unverified : NoVerifier admitted.at.registry (acting admitted) → IsFirst (TokenFails admitted approval) token_rules (Some TK2)
  unverified none = inr (λ other. other long, inl (none, refl))

  module _ (verifier : List ℕ) (key : Key) (is : IsVerifier admitted.at.registry (acting admitted) verifier key) where
    pub unfitting : approval.token ≢ token key.bytes admitted.command.p1 admitted.command.p2 approval.before
        → IsFirst (TokenFails admitted approval) token_rules (Some TK3)
    unfitting differs = inr (λ other. other long, inr (λ none. none verifier is.above.above is.above.fitting, inl ((verifier, key, is, differs), refl)))

    pub approved : approval.token ≡ token key.bytes admitted.command.p1 admitted.command.p2 approval.before
        → IsFirst (TokenFails admitted approval) token_rules None
    approved fits = inr (
      λ other. other long,
      inr (
        λ none. none verifier is.above.above is.above.fitting,
        inr (
          λ fails.
              (let same = one_holder admitted.at.registry _ _ (acting admitted) verifier fails.0 key fails.1 is fails.2 in
              fails.3 (fits ∙ ap (λ (k : Key). token k.bytes admitted.command.p1 admitted.command.p2 approval.before) same.1)),
          refl,
        ),
      ),
    )

-- there is one rule on the receipt
pub receipt_rule : (admitted : Admitted) (rule : RuleRC) → ReceiptFails admitted rule → ReceiptFails admitted RC1
receipt_rule admitted RC1 fails = fails
