-- A list that shows the things in slots, and what is found in it.
use Rattle.std.proofs.Common.{◌≡◌, ◌≢◌, inl, inr, ℕ, zero, suc, ◌+◌, ◌≤◌, Bool, true, ◌&&◌, List, [], ◌∷◌, Option, None, Some, refl, ap, sym, subst, ◌∙◌, arith}
use Rattle.std.specs.Prelude.{Contains, map, find, filter}
use Rattle.std.specs.List.{sum_by}
use Rattle.std.specs.List.Sorted.{IsStrictlySortedBy, IsPermutation}
use Rattle.std.specs.Cmp.{IsTotalOrder}
use Rattle.std.specs.declared.cmp.Ordering.{Ordering}
use Rattle.std.specs.declared.cmp.Ordering.TheVariants.{Equal}
use Rattle.std.proofs.lemmas.Bool.{cases_eq, and_from, and_parts}
use Rattle.std.proofs.lemmas.Cmp.{tied_itself}
use Rattle.std.proofs.lemmas.List.Sorted.{Contains-permutation, IsPermutation-sym, sum_by-IsPermutation}
use Rattle.std.proofs.lemmas.List.Sums.{sum_by-cons}
use Rattle.card_types.specs.Search.{IsLeast, NoneFits}
use Rattle.card_types.specs.Represents.{things_in, thing_in}
use Rattle.card_types.proofs.LeastOfList.{found_fits, none_found, least_found, one_ties, tie}
use Rattle.card_types.proofs.Members.{contains_cases, contains_filter, contains_first, contains_later, contains_map, filtered, mapped}

module _ {T : Type 0} where
  pub used_from_held : (slots : List (Option T)) (slot : ℕ) (thing : T) → thing_in slots slot ≡ Some thing → Contains (things_in slots) thing
  used_from_held [] slot thing at = cc
  used_from_held (None ∷ slots) zero thing at = cc
  used_from_held (None ∷ slots) (suc slot) thing at = used_from_held slots slot thing at
  used_from_held (Some x ∷ slots) zero thing at =
      let same : x ≡ thing = cc in
      subst (Contains (x ∷ things_in slots)) same (contains_first x (things_in slots))
  used_from_held (Some x ∷ slots) (suc slot) thing at = contains_later x (things_in slots) thing (used_from_held slots slot thing at)

  pub held_from_used : (slots : List (Option T)) (thing : T) → Contains (things_in slots) thing → (slot : ℕ) × (thing_in slots slot ≡ Some thing)
  held_from_used [] thing (k, within, is) = absurd (omega arith)
  held_from_used (None ∷ slots) thing there =
      let later = held_from_used slots thing there in
      (suc later.0, later.1)
  held_from_used (Some x ∷ slots) thing there = elim (contains_cases x (things_in slots) thing there) [
    | inl same ↦ (zero, ap Some same)
    | inr other ↦ (let later = held_from_used slots thing other in (suc later.0, later.1))
  ]

-- the list has a view of each thing that is kept, and no more
pub record Shows {T X : Type 0} (view : T → X) (keep : T → Bool) (slots : List (Option T)) (shown : List X) : Type 0 where
  pub there : (slot : ℕ) (thing : T) → thing_in slots slot ≡ Some thing → keep thing ≡ true → Contains shown (view thing)
  pub from : (x : X) → Contains shown x → (slot : ℕ) × (thing : T) × (thing_in slots slot ≡ Some thing) × (keep thing ≡ true) × (view thing ≡ x)

module _ {T X : Type 0} (view : T → X) (keep : T → Bool) (slots : List (Option T)) (shown : List X) where
  pub shows_kept : IsPermutation (map view (filter keep (things_in slots))) shown → Shows view keep slots shown
  shows_kept same = record {
    there = λ slot thing at kept.
        Contains-permutation _ shown (view thing) same (contains_map view _ thing (contains_filter keep _ thing (used_from_held slots slot thing at) kept));
    from = λ x among.
        (let back = mapped view _ x (Contains-permutation shown _ x (IsPermutation-sym _ shown same) among) in
        let kept = filtered keep (things_in slots) back.0 back.1 in
        let at = held_from_used slots back.0 kept.0 in
        (at.0, back.0, at.1, kept.1, back.2));
  }

  module _ (shows : Shows view keep slots shown) where
    -- what is found is in a slot
    pub slot_of_found : (p : X → Bool) (x : X) → find p shown ≡ Some x
        → (slot : ℕ) × (thing : T) × (thing_in slots slot ≡ Some thing) × (keep thing ≡ true) × (view thing ≡ x) × (p x ≡ true)
    slot_of_found p x found =
        let fits = found_fits p shown x found in
        let at = shows.from x fits.0 in
        (at.0, at.1, at.2, at.3, at.4, fits.1)

    -- none is found where none in a slot fits
    pub none_shown : (p : X → Bool) → NoneFits (λ thing. keep thing && p (view thing)) slots → find p shown ≡ None
    none_shown p none = none_found p shown (λ x among fits.
        (let at = shows.from x among in
        none at.0 at.1 at.2 (and_from (keep at.1) (p (view at.1)) at.3 (ap p at.4 ∙ fits))))

    module _ (c : X → X → Ordering) (total : IsTotalOrder c) (sorted : IsStrictlySortedBy c shown) where
      -- the least of those in slots that fit is found
      pub least_shown : (p : X → Bool) (slot : ℕ) (thing : T)
          → IsLeast (λ thing. keep thing && p (view thing)) (λ a b. c (view a) (view b)) slots slot thing → find p shown ≡ Some (view thing)
      least_shown p slot thing is =
          let fits = and_parts (keep thing) (p (view thing)) is.fitting in
          least_found c total p shown sorted (view thing) (shows.there slot thing is.at fits.0) fits.1 (λ y among fit above.
          (let at = shows.from y among in
          let fitting : (keep at.1 && p (view at.1)) ≡ true = and_from (keep at.1) (p (view at.1)) at.3 (ap p at.4 ∙ fit) in
          is.least at.0 at.1 at.2 fitting (ap (c (view thing)) at.4 ∙ above)))

      -- what is alone in fitting is found
      pub only_shown : (p : X → Bool) (slot : ℕ) (thing : T) → thing_in slots slot ≡ Some thing → keep thing ≡ true → p (view thing) ≡ true
          → ((y : X) → p y ≡ true → c (view thing) y ≡ Equal) → find p shown ≡ Some (view thing)
      only_shown p slot thing at kept fits alone =
          least_found c total p shown sorted (view thing) (shows.there slot thing at kept) fits (λ y among fit above.
          (let tied = alone y fit in cc))

-- Two different slots hold two things.
module _ {T X : Type 0} (view : T → X) (f : X → ℕ) where
  one_counts : (slots : List (Option T)) (slot : ℕ) (thing : T) → thing_in slots slot ≡ Some thing → f (view thing) ≤ sum_by f (map view (things_in slots))
  one_counts [] slot thing at = cc
  one_counts (None ∷ slots) zero thing at = cc
  one_counts (None ∷ slots) (suc slot) thing at = one_counts slots slot thing at
  one_counts (Some x ∷ slots) zero thing at =
      let same : f (view x) ≡ f (view thing) = (let alike : x ≡ thing = cc in ap (λ t. f (view t)) alike) in
      omega (arith, sum_by-cons f (view x) (map view (things_in slots)))
  one_counts (Some x ∷ slots) (suc slot) thing at =
      let rest = one_counts slots slot thing at in
      omega (arith, sum_by-cons f (view x) (map view (things_in slots)))

  pub two_count : (slots : List (Option T)) (a b : ℕ) (x y : T) → thing_in slots a ≡ Some x → thing_in slots b ≡ Some y → a ≢ b
      → f (view x) + f (view y) ≤ sum_by f (map view (things_in slots))
  two_count [] a b x y at_a at_b other = cc
  two_count (s ∷ slots) zero zero x y at_a at_b other = absurd (other refl)
  two_count (None ∷ slots) zero (suc b) x y at_a at_b other = cc
  two_count (None ∷ slots) (suc a) zero x y at_a at_b other = cc
  two_count (None ∷ slots) (suc a) (suc b) x y at_a at_b other = two_count slots a b x y at_a at_b (λ same. other (ap suc same))
  two_count (Some t ∷ slots) zero (suc b) x y at_a at_b other =
      let same : f (view t) ≡ f (view x) = (let alike : t ≡ x = cc in ap (λ t. f (view t)) alike) in
      let rest = one_counts slots b y at_b in
      omega (arith, sum_by-cons f (view t) (map view (things_in slots)))
  two_count (Some t ∷ slots) (suc a) zero x y at_a at_b other =
      let same : f (view t) ≡ f (view y) = (let alike : t ≡ y = cc in ap (λ t. f (view t)) alike) in
      let rest = one_counts slots a x at_a in
      omega (arith, sum_by-cons f (view t) (map view (things_in slots)))
  two_count (Some t ∷ slots) (suc a) (suc b) x y at_a at_b other =
      let rest = two_count slots a b x y at_a at_b (λ same. other (ap suc same)) in
      omega (arith, sum_by-cons f (view t) (map view (things_in slots)))

module _ {T X : Type 0} (view : T → X) (slots : List (Option T)) (shown : List X) (same : IsPermutation (map view (things_in slots)) shown) where
  pub shows_used : Shows view (λ _. true) slots shown
  shows_used = shows_kept view (λ _. true) slots shown (subst (λ (things : List T). IsPermutation (map view things) shown) (sym (all_kept (things_in slots))) same)
    where
      all_kept : (things : List T) → filter (λ _. true) things ≡ things
      all_kept [] = refl
      all_kept (t ∷ things) = ap (λ rest. t ∷ rest) (all_kept things)

  -- things that tie are in one slot
  pub one_slot : (c : X → X → Ordering) → IsTotalOrder c → IsStrictlySortedBy c shown → (a b : ℕ) (x y : T)
      → thing_in slots a ≡ Some x → thing_in slots b ≡ Some y → c (view x) (view y) ≡ Equal → a ≡ b
  one_slot c total sorted a b x y at_a at_b tied = elim (cases_eq a b) [
    | inl alike ↦ alike
    | inr other ↦
        (let count = tie c total (view y) in
        let first : count (view x) ≡ 1 = rw tied in
        let second : count (view y) ≡ 1 = rw (tied_itself total (view y)) in
        let both = two_count view count slots a b x y at_a at_b other in
        let most = one_ties c total (view y) shown sorted in
        absurd (omega (arith, sum_by-IsPermutation count _ shown same)))
  ]
