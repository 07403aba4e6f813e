-- A command that is answered leaves a card sound, where the registry but for a receipt number is, and there is one answer.
use Rattle.std.proofs.Common.{◌≡◌, ◌≢◌, inl, inr, ℕ, ◌+◌, ◌≤◌, List, Option, Some, refl, sym, ap, subst, ◌∙◌, arith}
use Rattle.std.specs.Prelude.{MatchOption}
use Rattle.std.proofs.lemmas.List.Elements.{All-contains}
use Rattle.card_types.proofs.LeastOfList.{found_fits}
use Rattle.card_types.proofs.LifeChanges.{receipts_keep}
use Rattle.policy_machine.specs.Prelude.{Admitted, Effect, Entry, Fits, IsAnswered, IsConfirmed, IsOfCard, IsWellEntry, ReceiptFails, Registry, Volatile, Well, acting, entry_named, receipt, same_aid, unique_data, with_receipts}
use Rattle.card_types.specs.declared.limits.TheConstants.{RECEIPT_LIMIT}
use Rattle.policy_machine.proofs.Approved.{one_holder}
use Rattle.policy_machine.proofs.ChangedFits.{changed_fits}
use Rattle.policy_machine.specs.declared.delegation.RuleRC.TheVariants.{RC1}

-- there is room for another number
next_number : (admitted : Admitted) (aids : List (List ℕ)) (changed : Registry) (done : Effect) → Well admitted.at.registry → (ReceiptFails admitted RC1 → ⊥)
    → (confirmed : IsConfirmed admitted aids changed done) → confirmed.entry.receipts + 1 ≤ RECEIPT_LIMIT
next_number admitted aids changed done well passes confirmed =
    let found = found_fits (λ (e : Entry). same_aid e.aid confirmed.receipter) admitted.at.registry.entries confirmed.entry confirmed.named in
    let most = (All-contains (IsWellEntry admitted.at.registry) admitted.at.registry.entries confirmed.entry well.entries found.0).proper.receipts in
    let other : confirmed.entry.receipts ≢ RECEIPT_LIMIT = (λ last. passes (
      confirmed.receipter,
      confirmed.key,
      confirmed.is_receipter,
      subst (λ (o : Option Entry). MatchOption o ⊥ (λ e. e.receipts ≡ RECEIPT_LIMIT)) (sym confirmed.named) last,
    )) in
    omega (arith, most, other)

module _ (delegated : Type 0) (admitted : Admitted) (aids : List (List ℕ)) (changed : Registry) (reply : List ℕ) (done : Effect) (well : Well admitted.at.registry)
    (passes : delegated → ReceiptFails admitted RC1 → ⊥) where
  -- the registry is one that a card may have
  pub answered_keeps : IsAnswered delegated admitted aids changed reply done → IsOfCard changed → IsOfCard done.state.registry
  answered_keeps (inl (so, confirmed)) of =
      subst IsOfCard (sym confirmed.registry)
      (receipts_keep changed confirmed.receipter (confirmed.entry.receipts + 1) of (next_number admitted aids changed done well (passes so) confirmed))
  answered_keeps (inr (so, unconfirmed)) of = subst IsOfCard (sym unconfirmed.registry) of

  -- what the card holds goes with the registry
  pub answered_fits : IsAnswered delegated admitted aids changed reply done → (volatile : Volatile) → Fits changed volatile → Fits done.state.registry volatile
  answered_fits (inl (so, confirmed)) volatile fits =
      subst (λ (r : Registry). Fits r volatile) (sym confirmed.registry)
      (changed_fits changed (λ other. same_aid other confirmed.receipter) (λ (entry : Entry). record entry { receipts = confirmed.entry.receipts + 1 })
      (record { aid = λ _. refl; file = λ _. refl; privileges = λ _. refl }) volatile fits)
  answered_fits (inr (so, unconfirmed)) volatile fits = subst (λ (r : Registry). Fits r volatile) (sym unconfirmed.registry) fits

-- there is one receipter at most, so there is one answer
module _ (delegated : Type 0) (admitted : Admitted) (aids : List (List ℕ)) (changed : Registry) (reply : List ℕ) (a b : Effect) where
  confirmed_once : IsConfirmed admitted aids changed a → IsConfirmed admitted aids changed b → (a.state.registry ≡ b.state.registry) × (a.body ≡ b.body)
  confirmed_once one other =
      let same = one_holder admitted.at.registry _ _ (acting admitted) one.receipter other.receipter one.key other.key one.is_receipter other.is_receipter in
      let entries : Some one.entry ≡ Some other.entry = sym one.named ∙ ap (entry_named admitted.at.registry) same.0 ∙ other.named in
      let entry : one.entry ≡ other.entry = cc in
      let aid = same.0 in
      let key = same.1 in (
        one.registry ∙ (λ i. with_receipts changed (aid i) ((entry i).receipts + 1)) ∙ sym other.registry,
        one.body ∙ (λ i. receipt (key i).bytes ((entry i).receipts + 1) (unique_data admitted.at.registry) aids) ∙ sym other.body,
      )

  pub answered_once : IsAnswered delegated admitted aids changed reply a → IsAnswered delegated admitted aids changed reply b
      → (a.state.registry ≡ b.state.registry) × (a.body ≡ b.body)
  answered_once (inl one) (inl other) = confirmed_once one.1 other.1
  answered_once (inl one) (inr other) = absurd (other.0 one.0 one.1.receipter one.1.is_receipter.above.above one.1.is_receipter.above.fitting)
  answered_once (inr one) (inl other) = absurd (one.0 other.0 other.1.receipter other.1.is_receipter.above.above other.1.is_receipter.above.fitting)
  answered_once (inr one) (inr other) = (one.1.registry ∙ sym other.1.registry, one.1.body ∙ sym other.1.body)
