-- What is above a thing that is below one that is moved.
use Rattle.std.proofs.Common.{◌≡◌, ◌≢◌, ◌⊎◌, inl, inr, ℕ, List, [], ◌∷◌, Option, ap, sym, subst, ◌∙◌}
use Rattle.card_types.proofs.MovedThing.{moved_keeps}
use Rattle.card_types.proofs.NamedThings.{aid_cases}
use Rattle.card_types.specs.ChangeLaws.{IsOfCard, MayMove}
use Rattle.card_types.specs.Hierarchy.{IsPath}
use Rattle.card_types.specs.Registry.{Registry, domain_of}
use Rattle.card_types.specs.RegistryChange.{with_thing_in_domain}
use Rattle.domain_tree.proofs.Compared.{above_further, both_ways}
use Rattle.domain_tree.proofs.DomainsStay.{domains_after_move}
use Rattle.domain_tree.specs.Above.{Above, AboveBelowMoved}

module _ {A : Type 0} where
  -- the path comes to this thing at its end alone, if at all
  abbrev IsApart : A → A → List A → Type 0
  IsApart c from [] = Unit {0}
  IsApart c from (next ∷ path) = (from ≢ c) × IsApart c next path

module _ {A : Type 0} (step step' : A → Option A) (c : A) (cases : (x : A) → (x ≡ c) ⊎ (x ≢ c)) (alike : (x : A) → x ≢ c → step' x ≡ step x) where
  -- a path comes to the thing, or goes by the other steps too
  comes_or_goes : (from to : A) (path : List A) → IsPath step from path to
      → (IsApart c from path × IsPath step' from path to) ⊎ ((rest : List A) × IsPath step c rest to)
  comes_or_goes from to [] leads = inl (tt, leads)
  comes_or_goes from to (next ∷ path) leads = elim (cases from) [
    | inl same ↦ inr (next ∷ path, (ap step (sym same) ∙ leads.0, leads.1))
    | inr other ↦ elim (comes_or_goes next to path leads.1) [
      | inl kept ↦ inl ((other, kept.0), (alike from other ∙ leads.0, kept.1))
      | inr rest ↦ inr rest
    ]
  ]

  -- the path that first comes to the thing goes by the other steps too
  first_path : (from : A) (path : List A) → IsPath step from path c → (first : List A) × IsPath step' from first c
  first_path from [] leads = ([], leads)
  first_path from (next ∷ path) leads = elim (cases from) [
    | inl same ↦ ([], same)
    | inr other ↦ (let rest = first_path next path leads.1 in (next ∷ rest.0, (alike from other ∙ leads.0, rest.1)))
  ]

-- where a path apart from a thing ends, one to the thing goes on
goes_on : {A : Type 0} (step : A → Option A) (c from to : A) (apart path : List A) → IsApart c from apart → IsPath step from apart to → IsPath step from path c
    → (rest : List A) × IsPath step to rest c
goes_on {A} step c from to [] path is leads up = (path, subst (λ (a : A). IsPath step a path c) leads up)
goes_on step c from to (next ∷ apart) [] is leads up = absurd (is.0 up)
goes_on {A} step c from to (next ∷ apart) (other ∷ path) is leads up =
    let same : other ≡ next = (let one = leads.0 in let two = up.0 in cc) in
    goes_on step c next to apart path is.1 leads.1 (subst (λ (a : A). IsPath step a path c) same up.1)

module _ (registry : Registry) (aid domain : List ℕ) (of : IsOfCard registry) (may : MayMove registry aid domain) (a b : List ℕ)
    (below : Above (domain_of registry) aid b) where
  abbrev after : Registry
  after = with_thing_in_domain registry aid domain

  alike_back : (x : List ℕ) → x ≢ aid → domain_of registry x ≡ domain_of after x
  alike_back x other = sym (domains_after_move registry aid domain x other)

  then_before : Above (domain_of after) a b → (Above (domain_of registry) a b × (Above (domain_of registry) a aid → ⊥)) ⊎ Above (domain_of after) a aid
  then_before above = elim (comes_or_goes (domain_of after) (domain_of registry) aid (λ x. aid_cases x aid) alike_back b a above.path above.leads) [
    | inl kept ↦ inl (
      record { other = above.other; path = above.path; leads = kept.1 },
      λ higher.
          (let rest = goes_on (domain_of registry) aid b a above.path below.path kept.0 kept.1 below.leads in
          higher.other (both_ways registry of a aid rest.0 higher.path rest.1 higher.leads)),
    )
    | inr rest ↦ elim (aid_cases a aid) [
      | inl same ↦ inl (subst (λ (x : List ℕ). Above (domain_of registry) x b) (sym same) below, λ higher. higher.other same)
      | inr other ↦ inr (record { other = other; path = rest.0; leads = rest.1 })
    ]
  ]

  up_then : (first : List (List ℕ)) × IsPath (domain_of after) b first aid
  up_then = first_path (domain_of registry) (domain_of after) aid (λ x. aid_cases x aid) (domains_after_move registry aid domain) b below.path below.leads

  before_then : (Above (domain_of registry) a b × (Above (domain_of registry) a aid → ⊥)) ⊎ Above (domain_of after) a aid → Above (domain_of after) a b
  before_then (inl kept) = elim (comes_or_goes (domain_of registry) (domain_of after) aid (λ x. aid_cases x aid) (domains_after_move registry aid domain) b a kept.0.path kept.0.leads) [
    | inl goes ↦ record { other = kept.0.other; path = kept.0.path; leads = goes.1 }
    | inr rest ↦ elim (aid_cases a aid) [
      | inl same ↦ record { other = kept.0.other; path = up_then.0; leads = subst (IsPath (domain_of after) b up_then.0) (sym same) up_then.1 }
      | inr other ↦ absurd (kept.1 (record { other = other; path = rest.0; leads = rest.1 }))
    ]
  ]
  before_then (inr higher) =
      above_further after (moved_keeps registry aid domain of may) a aid b higher (record { other = below.other; path = up_then.0; leads = up_then.1 })

pub above_below_moved : AboveBelowMoved
above_below_moved registry aid domain of may a b below = (then_before registry aid domain of may a b below, before_then registry aid domain of may a b below)
