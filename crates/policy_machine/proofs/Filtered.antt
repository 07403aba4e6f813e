-- What a filter keeps, and how much: of a list in order, of one with the same things, and of what a map gives.
use Rattle.std.proofs.Common.{◌≡◌, inl, inr, ℕ, zero, suc, ◌<◌, ◌≤◌, Bool, true, false, cond, List, [], ◌∷◌, length, refl, ap, sym, subst, ◌∙◌, arith, get_or}
use Rattle.std.specs.Prelude.{Contains, filter, map, not}
use Rattle.std.specs.List.{AllByRecursion, list_any, swap}
use Rattle.std.specs.List.Sorted.{IsPermutation, IsStrictlySortedBy}
use Rattle.std.specs.declared.cmp.Ordering.{Ordering}
use Rattle.std.specs.declared.cmp.Ordering.TheVariants.{Less}
use Rattle.std.proofs.Math.ListN.{set}
use Rattle.std.proofs.lemmas.Bool.{cases_Bool}
use Rattle.std.proofs.lemmas.List.Edits.{swap_is}
use Rattle.std.proofs.lemmas.List.Filters.{length-filter_both, sum_by-filter_both}
use Rattle.std.proofs.lemmas.List.Sorted.{IsPermutation-cons, IsPermutation-keeps, IsPermutation-middle, IsPermutation-refl, IsPermutation-trans, sum_by-IsPermutation}
use Rattle.std.proofs.lemmas.List.Sums.{length-filter}
use Rattle.card_types.proofs.Members.{contains_cases, contains_first, contains_later}

module _ {X : Type 0} (p : X → Bool) where
  all_kept : (P : X → Type 0) (xs : List X) → AllByRecursion P xs → AllByRecursion P (filter p xs)
  all_kept P [] all = tt
  all_kept P (x ∷ xs) all = elim (cases_Bool (p x)) [
    | inl fit ↦ rw fit (all.0, all_kept P xs all.1)
    | inr misfit ↦ rw misfit (all_kept P xs all.1)
  ]

  -- the order stays
  pub filter_sorted : (c : X → X → Ordering) (xs : List X) → IsStrictlySortedBy c xs → IsStrictlySortedBy c (filter p xs)
  unfolding IsStrictlySortedBy
  filter_sorted c [] sorted = tt
  filter_sorted c (x ∷ xs) sorted = elim (cases_Bool (p x)) [
    | inl fit ↦ rw fit (all_kept (λ y. c x y ≡ Less) xs sorted.0, filter_sorted c xs sorted.1)
    | inr misfit ↦ rw misfit (filter_sorted c xs sorted.1)
  ]

  keep_first : (x : X) (xs ys : List X) → IsPermutation (filter p xs) (filter p ys) → IsPermutation (filter p (x ∷ xs)) (filter p (x ∷ ys))
  keep_first x xs ys same = elim (cases_Bool (p x)) [
    | inl fit ↦ rw fit (IsPermutation-cons x (filter p xs) (filter p ys) same)
    | inr misfit ↦ rw misfit same
  ]

  turn : (x y : X) (xs : List X) → IsPermutation (filter p (x ∷ y ∷ xs)) (filter p (y ∷ x ∷ xs))
  turn x y xs = elim (cases_Bool (p x)) [
    | inl first ↦ elim (cases_Bool (p y)) [
      | inl second ↦ rw (first, second) (IsPermutation-middle (x ∷ []) y (filter p xs))
      | inr misfit ↦ rw (first, misfit) (IsPermutation-refl (x ∷ filter p xs))
    ]
    | inr misfit ↦ rw misfit (IsPermutation-refl (filter p (y ∷ xs)))
  ]

  to_front : (x : X) (xs : List X) (k : ℕ) (d : X) → k < length xs → IsPermutation (filter p (x ∷ xs)) (filter p (get_or xs k d ∷ set xs k x))
  to_front x [] k d within = absurd (omega arith)
  to_front x (y ∷ xs) zero d within = turn x y xs
  to_front x (y ∷ xs) (suc k) d within =
      IsPermutation-trans _ _ _ (turn x y xs)
      (IsPermutation-trans _ _ _ (keep_first y (x ∷ xs) (get_or xs k d ∷ set xs k x) (to_front x xs k d (omega (arith, within)))) (turn y (get_or xs k d) (set xs k x)))

  exchanged : (xs : List X) (i j : ℕ) (d : X) → i < length xs → j < length xs
      → IsPermutation (filter p xs) (filter p (set (set xs i (get_or xs j d)) j (get_or xs i d)))
  exchanged [] i j d one other = absurd (omega arith)
  exchanged (x ∷ xs) zero zero d one other = IsPermutation-refl (filter p (x ∷ xs))
  exchanged (x ∷ xs) zero (suc j) d one other = to_front x xs j d (omega (arith, other))
  exchanged (x ∷ xs) (suc i) zero d one other = to_front x xs i d (omega (arith, one))
  exchanged (x ∷ xs) (suc i) (suc j) d one other =
      keep_first x xs (set (set xs i (get_or xs j d)) j (get_or xs i d)) (exchanged xs i j d (omega (arith, one)) (omega (arith, other)))

  swapped : (xs : List X) (i j : ℕ) → i < length xs → j < length xs → IsPermutation (filter p xs) (filter p (swap xs i j))
  swapped [] i j one other = absurd (omega arith)
  swapped (x ∷ xs) i j one other =
      subst (λ (ys : List X). IsPermutation (filter p (x ∷ xs)) (filter p ys)) (swap_is (x ∷ xs) i j x one other) (exchanged (x ∷ xs) i j x one other)

  -- a filter keeps the same things of a list in another order
  pub filter_same : (xs ys : List X) → IsPermutation xs ys → IsPermutation (filter p xs) (filter p ys)
  filter_same xs ys same =
      IsPermutation-keeps xs (λ zs. IsPermutation (filter p xs) (filter p zs)) (IsPermutation-refl (filter p xs))
      (λ zs i j one other so_far. IsPermutation-trans (filter p xs) (filter p zs) (filter p (swap zs i j)) so_far (swapped zs i j one other)) ys same

  -- two filters may change places
  pub filters_swap : (q : X → Bool) (xs : List X) → filter p (filter q xs) ≡ filter q (filter p xs)
  filters_swap q [] = refl
  filters_swap q (x ∷ xs) = elim (cases_Bool (p x)) [
    | inl first ↦ elim (cases_Bool (q x)) [
      | inl second ↦ rw (second, first, second) (ap (λ ys. x ∷ ys) (filters_swap q xs))
      | inr misfit ↦ rw (misfit, first, misfit) (filters_swap q xs)
    ]
    | inr unfit ↦ elim (cases_Bool (q x)) [
      | inl second ↦ rw (second, unfit) (filters_swap q xs)
      | inr misfit ↦ rw (misfit, unfit) (filters_swap q xs)
    ]
  ]

  -- a thing that passes, where any does
  pub any_there : (xs : List X) (x : X) → Contains xs x → p x ≡ true → list_any p xs ≡ true
  any_there [] x (k, within, is) fits = absurd (omega arith)
  any_there (y ∷ xs) x there fits = elim (cases_Bool (p y)) [
    | inl fit ↦ rw fit refl
    | inr misfit ↦ elim (contains_cases y xs x there) [
      | inl same ↦ (let clash = ap p same in cc)
      | inr later ↦ rw misfit (any_there xs x later fits)
    ]
  ]

  pub there_any : (xs : List X) → list_any p xs ≡ true → (x : X) × Contains xs x × (p x ≡ true)
  there_any [] some = cc
  there_any (y ∷ xs) some = elim (cases_Bool (p y)) [
    | inl fit ↦ (y, contains_first y xs, fit)
    | inr misfit ↦ (let rest = there_any xs (rw misfit at some) in (rest.0, contains_later y xs rest.0 rest.1, rest.2))
  ]

-- what is kept of what a map gives
pub map_kept : {T X : Type 0} (view : T → X) (stay : T → Bool) (p : X → Bool) (things : List T)
    → ((thing : T) → Contains things thing → stay thing ≡ p (view thing)) → map view (filter stay things) ≡ filter p (map view things)
map_kept view stay p [] alike = refl
map_kept view stay p (t ∷ things) alike =
    let rest = map_kept view stay p things (λ u there. alike u (contains_later t things u there)) in
    let first = alike t (contains_first t things) in
    elim (cases_Bool (p (view t))) [
      | inl fit ↦ (let stays = first ∙ fit in rw (stays, fit) (ap (λ xs. view t ∷ xs) rest))
      | inr misfit ↦ (let goes = first ∙ misfit in rw (goes, misfit) rest)
    ]

-- how many pass: of what another test keeps, of a list in another order, and of any
module _ {X : Type 0} where
  pub fewer_pass : (p q : X → Bool) (xs : List X) → length (filter p (filter q xs)) ≤ length (filter p xs)
  fewer_pass p q xs =
      omega (arith, length-filter p (filter q xs), length-filter p xs, sum_by-filter_both q (λ x. not (q x)) (λ x. refl) (λ x. cond (p x) 1 0) xs)

  pub as_many_pass : (p : X → Bool) (xs ys : List X) → IsPermutation xs ys → length (filter p ys) ≡ length (filter p xs)
  as_many_pass p xs ys same = length-filter p ys ∙ sum_by-IsPermutation (λ x. cond (p x) 1 0) xs ys same ∙ sym (length-filter p xs)

  pub most_pass : (p : X → Bool) (xs : List X) → length (filter p xs) ≤ length xs
  most_pass p xs = omega (arith, length-filter_both p (λ x. not (p x)) (λ _. refl) xs)

  pub none_pass : (p : X → Bool) (xs : List X) → ((x : X) → Contains xs x → p x ≡ false) → filter p xs ≡ []
  none_pass p [] none = refl
  none_pass p (x ∷ xs) none = rw (none x (contains_first x xs)) (none_pass p xs (λ y there. none y (contains_later x xs y there)))
