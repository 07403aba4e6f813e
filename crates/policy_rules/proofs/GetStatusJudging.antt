-- The rules of GET STATUS after its form, by its request.
use Rattle.std.proofs.Common.{◌≡◌, inl, inr, ℕ, List, ◌∷◌, Option, None, Some, refl, ap, sym, subst, ◌∙◌, arith}
use Rattle.std.specs.Prelude.{MatchOption}
use Rattle.policy_rules.specs.Prelude.{Admitted, BeginsAbove, Element, GetStatusFails, IsFirst, IsListOf, IsListed, IsNextListed, IsPlaceOf, IsSearch, ListingFails, ManagementFails, NoneListed, Place, acting, get_status_rules, place_before, tag_list}
use Rattle.policy_machine.specs.declared.get_status.RuleGS.TheVariants.{GS1, GS2}
use Rattle.policy_machine.specs.declared.management.RuleM.TheVariants.{M2}
use Rattle.policy_machine.specs.declared.rule.Rule.TheVariants.{GS, M}
use Rattle.policy_rules.specs.declared.get_status.ListRequest.{ListRequest}
use Rattle.card_types.specs.declared.found.Found.{Found}
use Rattle.card_types.specs.declared.tables.Tables.{Tables}
use Rattle.policy_machine.proofs.StoreDataElements.{one_list}

-- a data field has one partial AID
pub one_search : (body a b : List ℕ) → IsSearch body a → IsSearch body b → a ≡ b
one_search body a b one other =
    let same = one_list (record { tag = 0x4F; value = a } ∷ tag_list one.tags) (record { tag = 0x4F; value = b } ∷ tag_list other.tags) body one.spelled other.spelled in
    let first : record { tag = 0x4F; value = a } ≡ record { tag = 0x4F; value = b } = cc in
    ap (λ (e : Element). e.value) first

module _ (admitted : Admitted) where
  -- a part begins at one AID
  pub one_beginning : (a b : Option (List ℕ)) → BeginsAbove admitted a → BeginsAbove admitted b → a ≡ b
  one_beginning a b (inl first) (inl second) = first.1 ∙ sym second.1
  one_beginning a b (inl first) (inr second) = (let two = first.0 in let three = second.0 in absurd (omega (arith, two, three)))
  one_beginning a b (inr first) (inl second) = (let three = first.0 in let two = second.0 in absurd (omega (arith, two, three)))
  one_beginning a b (inr first) (inr second) = by (place_before admitted) first.1 second.1
    where
      by : (place : Option Place) → MatchOption place ⊥ (λ p. IsPlaceOf admitted.command p × (a ≡ Some p.last))
          → MatchOption place ⊥ (λ p. IsPlaceOf admitted.command p × (b ≡ Some p.last)) → a ≡ b
      by None one other = absurd one
      by (Some place) one other = one.1 ∙ sym other.1

  pub locked_first : ManagementFails admitted M2 → IsFirst (GetStatusFails admitted) get_status_rules (Some (M M2))
  locked_first fails = inl (fails, refl)

  module _ (unlocked : ManagementFails admitted M2 → ⊥) where
    pub placeless_first : ListingFails admitted GS1 → IsFirst (GetStatusFails admitted) get_status_rules (Some (GS GS1))
    placeless_first fails = inr (unlocked, inl (fails, refl))

    module _ (placed : ListingFails admitted GS1 → ⊥) where
      pub nothing_first : ListingFails admitted GS2 → IsFirst (GetStatusFails admitted) get_status_rules (Some (GS GS2))
      nothing_first fails = inr (unlocked, inr (placed, inl (fails, refl)))

      pub none_first : (ListingFails admitted GS2 → ⊥) → IsFirst (GetStatusFails admitted) get_status_rules None
      none_first some = inr (unlocked, inr (placed, inr (some, refl)))

module _ (admitted : Admitted) (request : ListRequest) (is : IsListOf request admitted.command) where
  module _ (after : Option (List ℕ)) (begins : BeginsAbove admitted after) where
    -- nothing is listed, so nothing is to be shown
    pub nothing_shown : NoneListed admitted request.kind request.prefix.now after → ListingFails admitted GS2
    nothing_shown none thing (partial, beginning, search, above, listed) =
        let kinds = subst (λ (p1 : ℕ). IsListed admitted.at.registry (acting admitted) p1 partial beginning thing) (sym is.kind) listed in
        let asked = subst (λ (p : List ℕ). IsListed admitted.at.registry (acting admitted) request.kind p beginning thing)
        (one_search admitted.command.body partial request.prefix.now search is.search) kinds in
        none thing (subst (λ (a : Option (List ℕ)). IsListed admitted.at.registry (acting admitted) request.kind request.prefix.now a thing)
        (one_beginning admitted beginning after above begins) asked)

    pub something_shown : (page : ℕ → List ℕ) (tables : Tables) (found : Found) → IsNextListed page tables admitted request.kind request.prefix.now after found
        → ListingFails admitted GS2 → ⊥
    something_shown page tables found next none =
        none next.thing (
          request.prefix.now,
          after,
          is.search,
          begins,
          subst (λ (p1 : ℕ). IsListed admitted.at.registry (acting admitted) p1 request.prefix.now after next.thing) is.kind next.listed,
        )
