-- What a filter keeps of a list in strictly ascending order, one find after another.
use Rattle.std.proofs.Common.{◌≡◌, inl, inr, Bool, true, false, ◌&&◌, List, [], ◌∷◌, Option, None, Some, refl, sym, subst, ◌∙◌}
use Rattle.std.specs.Prelude.{Contains, find, filter, MatchOption}
use Rattle.std.specs.List.Sorted.{IsStrictlySortedBy}
use Rattle.std.specs.Cmp.{IsTotalOrder}
use Rattle.std.specs.Ordering.{is_lt}
use Rattle.std.specs.declared.cmp.Ordering.{Ordering}
use Rattle.std.proofs.lemmas.Bool.{cases_Bool}
use Rattle.std.proofs.lemmas.Cmp.{tied_itself}
use Rattle.card_types.specs.Registry.{key_order}
use Rattle.card_types.specs.Registry as registry
use Rattle.card_types.proofs.LeastOfList.{find_first, find_later, first_below, others_sorted}
use Rattle.card_types.proofs.KeyNames.{key_order_total}
use Rattle.card_types.proofs.Members.{contains_first, contains_later}

module _ {X : Type 0} where
  keeps_alike : (p q : X → Bool) (xs : List X) → ((x : X) → Contains xs x → p x ≡ q x) → filter p xs ≡ filter q xs
  keeps_alike p q [] alike = refl
  keeps_alike p q (x ∷ xs) alike =
      let rest = keeps_alike p q xs (λ y there. alike y (contains_later x xs y there)) in
      let first = alike x (contains_first x xs) in
      rw (first, rest)

  keeps_none : (p : X → Bool) (xs : List X) → find p xs ≡ None → filter p xs ≡ []
  keeps_none p [] none = refl
  keeps_none p (x ∷ xs) none = elim (cases_Bool (p x)) [
    | inl fit ↦ (let first = find_first p x xs fit in cc)
    | inr misfit ↦ rw misfit (keeps_none p xs (sym (find_later p x xs misfit) ∙ none))
  ]

  module _ (c : X → X → Ordering) (total : IsTotalOrder c) where
    keeps_past : (p : X → Bool) (xs : List X) → IsStrictlySortedBy c xs → (k : X) → find p xs ≡ Some k
        → filter p xs ≡ k ∷ filter (λ x. p x && is_lt (c k x)) xs
    keeps_past p [] sorted k found = cc
    keeps_past p (x ∷ xs) sorted k found = elim (cases_Bool (p x)) [
      | inl fit ↦
          (let same : x ≡ k = (let first = find_first p x xs fit in cc) in
          let itself : is_lt (c x x) ≡ false = rw (tied_itself total x) in
          let rest : filter p xs ≡ filter (λ y. p y && is_lt (c x y)) xs =
          keeps_alike p (λ y. p y && is_lt (c x y)) xs (λ y there. rw (first_below c x xs sorted y there) (sym (and_true (p y)))) in
          let kept : filter p (x ∷ xs) ≡ x ∷ filter (λ y. p y && is_lt (c x y)) (x ∷ xs) = rw (fit, itself, rest) in
          subst (λ (z : X). filter p (x ∷ xs) ≡ z ∷ filter (λ y. p y && is_lt (c z y)) (x ∷ xs)) same kept)
      | inr misfit ↦
          rw misfit (keeps_past p xs (others_sorted c x xs sorted) k (sym (find_later p x xs misfit) ∙ found))
    ]
      where
        and_true : (b : Bool) → (b && true) ≡ b
        and_true true = refl
        and_true false = refl

    -- nothing where none is found, and else the one found and what fits past it
    pub filter_by_finds_in_order : (p : X → Bool) (xs : List X) → IsStrictlySortedBy c xs
        → MatchOption (find p xs) (filter p xs ≡ []) (λ k. filter p xs ≡ k ∷ filter (λ x. p x && is_lt (c k x)) xs)
    filter_by_finds_in_order p xs sorted = by (find p xs) refl
      where
        by : (found : Option X) → find p xs ≡ found → MatchOption found (filter p xs ≡ []) (λ k. filter p xs ≡ k ∷ filter (λ x. p x && is_lt (c k x)) xs)
        by None is = keeps_none p xs is
        by (Some k) is = keeps_past p xs sorted k is

pub filter_by_finds : (p : registry.Key → Bool) (ks : List registry.Key) → IsStrictlySortedBy key_order ks
    → MatchOption (find p ks) (filter p ks ≡ []) (λ k. filter p ks ≡ k ∷ filter (λ x. p x && is_lt (key_order k x)) ks)
filter_by_finds p ks sorted = filter_by_finds_in_order key_order key_order_total p ks sorted
