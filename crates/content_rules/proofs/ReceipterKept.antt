-- Who makes a receipt is the domain of something else than itself.
use Rattle.std.proofs.Common.{◌≡◌, ◌≢◌, inl, inr, ℕ, List, [], ◌∷◌, Option, None, Some, refl, sym, subst, ◌∙◌}
use Rattle.std.specs.Prelude.{MatchOption}
use Rattle.std.proofs.lemmas.Bool.{cases_eq}
use Rattle.card_types.proofs.Domains.{same_domain, used_from_step}
use Rattle.content_rules.specs.Prelude.{Above, ActsIn, Admitted, HasOthersIn, IsPath, IsReceipterIn, domain_aid, domain_of, domain_slot, thing_in}
use Rattle.card_types.specs.declared.limits.TheConstants.{RECEIPT_LIMIT}
use Rattle.card_types.specs.declared.tables.Entry.{Entry}
use Rattle.card_types.specs.declared.tables.Tables.{Tables}
use Rattle.domain_tree.proofs.AboveNamed.{slot_above}

-- where steps lead from another entry to this slot, the last one is a step of another
has_others : (tables : Tables) (slot from : ℕ) (path : List ℕ) → slot ≢ from → IsPath (domain_slot tables.entries.items) from path slot → HasOthersIn tables slot
has_others tables slot from [] other leads = absurd (other (sym leads))
has_others tables slot from (next ∷ path) other leads = elim (cases_eq next slot) [
  | inl same ↦
      (let step = used_from_step tables.entries.items from next leads.0 in
      inl (from, step.0, (λ (here : from ≡ slot). other (sym here)), step.1, step.2 ∙ same))
  | inr apart ↦ has_others tables slot next path (λ same. apart (sym same)) leads.1
]

module _ (page : ℕ → List ℕ) (tables : Tables) (domain : ℕ) (admitted : Admitted) (acts : ActsIn page tables domain admitted) (slot : ℕ) (is : IsReceipterIn tables admitted slot) where
  used : (entry : Entry) × (thing_in tables.entries.items slot ≡ Some entry)
  used = by (thing_in tables.entries.items slot) refl is.below
    where
      by : (o : Option Entry) → thing_in tables.entries.items slot ≡ o → MatchOption o ⊥ (λ entry. entry.receipts ≢ RECEIPT_LIMIT)
          → (entry : Entry) × (thing_in tables.entries.items slot ≡ Some entry)
      by None at below = absurd below
      by (Some entry) at below = (entry, at)

  pub receipter_has_others : HasOthersIn tables slot
  receipter_has_others =
      let said = admitted.at.registry in
      let entries = tables.entries.items in
      let above = subst (λ (from : List ℕ). Above (domain_of said) (domain_aid entries slot) from) acts.on is.is.above.above in
      let found = slot_above page tables said acts.says acts.well domain acts.entry (domain_aid entries slot) acts.at above in
      let same = same_domain page tables said acts.says found.0 slot found.1 used.0 found.2 used.1 found.3 in
      let higher = subst (λ (s : ℕ). Above (domain_slot entries) s domain) same found.4 in
      has_others tables slot domain higher.path higher.other higher.leads
