-- In a list in strictly ascending order the first that fits is the least that fits, and no two are alike.
use Rattle.std.proofs.Common.{◌≡◌, ◌≢◌, inl, inr, ℕ, ◌≤◌, Bool, true, false, cond, List, [], ◌∷◌, Option, None, Some, refl, ap, sym, subst, ◌∙◌, arith}
use Rattle.std.specs.Prelude.{Contains, IsSome, map, find}
use Rattle.std.specs.List.{AllByRecursion, sum_by}
use Rattle.std.specs.List.Sorted.{IsStrictlySortedBy}
use Rattle.std.specs.Cmp.{IsTotalOrder}
use Rattle.std.specs.Ordering.{is_eq, on, ordering_reverse}
use Rattle.std.specs.declared.cmp.Ordering.{Ordering}
use Rattle.std.specs.declared.cmp.Ordering.TheVariants.{Less, Equal, Greater}
use Rattle.std.proofs.lemmas.Bool.{cases_Bool, false≢true}
use Rattle.std.proofs.lemmas.Cmp.{tied_back, tied_itself}
use Rattle.std.proofs.lemmas.List.Elements.{All-from_recursion, All-contains}
use Rattle.std.proofs.lemmas.List.Sums.{sum_by-cons}
use Rattle.card_types.proofs.Members.{contains_cases, contains_first, contains_later}

module _ {X : Type 0} where
  pub find_first : (p : X → Bool) (y : X) (ys : List X) → p y ≡ true → find p (y ∷ ys) ≡ Some y
  find_first p y ys fits = rw fits

  pub find_later : (p : X → Bool) (y : X) (ys : List X) → p y ≡ false → find p (y ∷ ys) ≡ find p ys
  find_later p y ys unfit = rw unfit

  -- what is found is a member that fits
  pub found_fits : (p : X → Bool) (ys : List X) (x : X) → find p ys ≡ Some x → Contains ys x × (p x ≡ true)
  found_fits p [] x found = cc
  found_fits p (y ∷ ys) x found = elim (cases_Bool (p y)) [
    | inl fit ↦
        (let same : y ≡ x = (let first = find_first p y ys fit in cc) in
        (subst (Contains (y ∷ ys)) same (contains_first y ys), ap p (sym same) ∙ fit))
    | inr misfit ↦
        (let later = found_fits p ys x (sym (find_later p y ys misfit) ∙ found) in
        (contains_later y ys x later.0, later.1))
  ]

  -- none is found where none fits
  pub none_found : (p : X → Bool) (ys : List X) → ((y : X) → Contains ys y → p y ≢ true) → find p ys ≡ None
  none_found p [] unfit = refl
  none_found p (y ∷ ys) unfit = elim (cases_Bool (p y)) [
    | inl fit ↦ absurd (unfit y (contains_first y ys) fit)
    | inr misfit ↦ find_later p y ys misfit ∙ none_found p ys (λ z there. unfit z (contains_later y ys z there))
  ]

  -- none fits where none is found
  pub none_fits : (p : X → Bool) (ys : List X) → find p ys ≡ None → (y : X) → Contains ys y → p y ≢ true
  none_fits p [] none y (k, within, is) fits = omega arith
  none_fits p (z ∷ ys) none y there fits = elim (cases_Bool (p z)) [
    | inl fit ↦ (let first = find_first p z ys fit in cc)
    | inr misfit ↦ elim (contains_cases z ys y there) [
      | inl same ↦ (let clash = ap p same in cc)
      | inr later ↦ none_fits p ys (sym (find_later p z ys misfit) ∙ none) y later fits
    ]
  ]

  -- one that fits is found, and where something is found it is a member that fits
  pub some_found : (p : X → Bool) (ys : List X) (y : X) → Contains ys y → p y ≡ true → IsSome (find p ys)
  some_found p ys y there fits = by (find p ys) refl
    where
      by : (o : Option X) → find p ys ≡ o → IsSome o
      by (Some x) found = refl
      by None none = absurd (none_fits p ys none y there fits)

  pub found_some : (p : X → Bool) (ys : List X) → IsSome (find p ys) → (x : X) × Contains ys x × (p x ≡ true)
  found_some p ys some = by (find p ys) refl some
    where
      by : (o : Option X) → find p ys ≡ o → IsSome o → (x : X) × Contains ys x × (p x ≡ true)
      by None none is = absurd (false≢true is)
      by (Some x) found is = (let fits = found_fits p ys x found in (x, fits.0, fits.1))

untied : (o : Ordering) → o ≢ Equal → ◌≡◌ {A = ℕ} (cond (is_eq o) 1 0) 0
untied Less other = refl
untied Equal other = absurd (other refl)
untied Greater other = refl

by_name : {X Y : Type 0} (P : X → Type 0) (name : Y → X) (ys : List Y) → AllByRecursion P (map name ys) → AllByRecursion (λ y. P (name y)) ys
by_name P name [] all = tt
by_name P name (y ∷ ys) all = (all.0, by_name P name ys all.1)

to_names : {X Y : Type 0} (P : X → Type 0) (name : Y → X) (ys : List Y) → AllByRecursion (λ y. P (name y)) ys → AllByRecursion P (map name ys)
to_names P name [] all = tt
to_names P name (y ∷ ys) all = (all.0, to_names P name ys all.1)

module _ {X : Type 0} (c : X → X → Ordering) where
  -- the first is below the others
  pub first_below : (y : X) (ys : List X) → IsStrictlySortedBy c (y ∷ ys) → (x : X) → Contains ys x → c y x ≡ Less
  unfolding IsStrictlySortedBy
  first_below y ys sorted x there = All-contains (λ x. c y x ≡ Less) ys x (All-from_recursion (λ x. c y x ≡ Less) ys sorted.0) there

  pub others_sorted : (y : X) (ys : List X) → IsStrictlySortedBy c (y ∷ ys) → IsStrictlySortedBy c ys
  unfolding IsStrictlySortedBy
  others_sorted y ys sorted = sorted.1

  -- in order by a name
  pub sorted_by_name : {Y : Type 0} (name : Y → X) (ys : List Y) → IsStrictlySortedBy c (map name ys) → IsStrictlySortedBy (on name c) ys
  unfolding IsStrictlySortedBy
  sorted_by_name name [] sorted = tt
  sorted_by_name name (y ∷ ys) sorted = (by_name (λ x. c (name y) x ≡ Less) name ys sorted.0, sorted_by_name name ys sorted.1)

  pub names_sorted : {Y : Type 0} (name : Y → X) (ys : List Y) → IsStrictlySortedBy (on name c) ys → IsStrictlySortedBy c (map name ys)
  unfolding IsStrictlySortedBy
  names_sorted name [] sorted = tt
  names_sorted name (y ∷ ys) sorted = (to_names (λ x. c (name y) x ≡ Less) name ys sorted.0, names_sorted name ys sorted.1)

  module _ (total : IsTotalOrder c) where
    above_from_below : (a b : X) → c a b ≡ Less → c b a ≡ Greater
    above_from_below a b below = total.antisymm b a ∙ ap ordering_reverse below

    -- the one that is found is the least of those that fit
    pub least_found : (p : X → Bool) (ys : List X) → IsStrictlySortedBy c ys → (x : X) → Contains ys x → p x ≡ true
        → ((y : X) → Contains ys y → p y ≡ true → c x y ≢ Greater) → find p ys ≡ Some x
    least_found p [] sorted x (k, within, is) fits least = absurd (omega arith)
    least_found p (y ∷ ys) sorted x there fits least = elim (cases_Bool (p y)) [
      | inl fit ↦ elim (contains_cases y ys x there) [
        | inl same ↦ find_first p y ys fit ∙ ap Some same
        | inr later ↦ absurd (least y (contains_first y ys) fit (above_from_below y x (first_below y ys sorted x later)))
      ]
      | inr misfit ↦ elim (contains_cases y ys x there) [
        | inl same ↦ (let clash = ap p same in cc)
        | inr later ↦
            find_later p y ys misfit ∙ least_found p ys (others_sorted y ys sorted) x later fits (λ z among. least z (contains_later y ys z among))
      ]
    ]

    -- none that fits is below the one that is found
    pub found_least : (p : X → Bool) (ys : List X) → IsStrictlySortedBy c ys → (x : X) → find p ys ≡ Some x
        → (y : X) → Contains ys y → p y ≡ true → c x y ≢ Greater
    found_least p [] sorted x found y there fits above = cc
    found_least p (z ∷ ys) sorted x found y there fits above = elim (cases_Bool (p z)) [
      | inl fit ↦
          (let same : z ≡ x = (let first = find_first p z ys fit in cc) in
          elim (contains_cases z ys y there) [
            | inl first ↦
                (let tied = tied_itself total z in
                let itself : c z z ≡ Greater = subst (λ (a : X). c a z ≡ Greater) (sym same) (subst (λ (b : X). c x b ≡ Greater) (sym first) above) in cc)
            | inr later ↦
                (let below = first_below z ys sorted y later in
                let here : c z y ≡ Greater = subst (λ (a : X). c a y ≡ Greater) (sym same) above in cc)
          ])
      | inr misfit ↦ elim (contains_cases z ys y there) [
        | inl first ↦ (let clash = ap p first in cc)
        | inr later ↦ found_least p ys (others_sorted z ys sorted) x (sym (find_later p z ys misfit) ∙ found) y later fits above
      ]
    ]

    -- 1 for what ties with the one given
    abbrev pub tie : X → X → ℕ
    tie k y = cond (is_eq (c y k)) 1 0

    no_tie : (k : X) (ys : List X) → ((y : X) → Contains ys y → c y k ≢ Equal) → sum_by (tie k) ys ≡ 0
    no_tie k [] none = refl
    no_tie k (y ∷ ys) none =
        let first : tie k y ≡ 0 = untied (c y k) (none y (contains_first y ys)) in
        let rest = no_tie k ys (λ z there. none z (contains_later y ys z there)) in
        omega (arith, sum_by-cons (tie k) y ys)

    -- after one that ties there is no other
    none_after : (k y : X) (ys : List X) → IsStrictlySortedBy c (y ∷ ys) → c y k ≡ Equal → sum_by (tie k) ys ≡ 0
    none_after k y ys sorted is = no_tie k ys (λ z there tied.
        (let below = first_below y ys sorted z there in
        let moved = total.congr y k z is in
        let back = tied_back total z k tied in cc))

    -- in a strictly ascending list at most one ties
    pub one_ties : (k : X) (ys : List X) → IsStrictlySortedBy c ys → sum_by (tie k) ys ≤ 1
    one_ties k [] sorted = omega arith
    one_ties k (y ∷ ys) sorted = with_first k y ys sorted (one_ties k ys (others_sorted y ys sorted)) (c y k) refl
      where
        with_first : (k y : X) (ys : List X) → IsStrictlySortedBy c (y ∷ ys) → sum_by (tie k) ys ≤ 1
            → (o : Ordering) → c y k ≡ o → sum_by (tie k) (y ∷ ys) ≤ 1
        with_first k y ys sorted rest Less is = (let first : tie k y ≡ 0 = rw is in omega (arith, sum_by-cons (tie k) y ys))
        with_first k y ys sorted rest Greater is = (let first : tie k y ≡ 0 = rw is in omega (arith, sum_by-cons (tie k) y ys))
        with_first k y ys sorted rest Equal is =
            (let first : tie k y ≡ 1 = rw is in
            let none = none_after k y ys sorted is in
            omega (arith, sum_by-cons (tie k) y ys))
