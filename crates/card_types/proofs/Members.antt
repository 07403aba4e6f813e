-- Members of lists, of what a map gives and of what a filter keeps.
use Rattle.std.proofs.Common.{◌≡◌, ◌⊎◌, inl, inr, zero, suc, Bool, true, List, [], ◌∷◌, refl, ap, sym, subst, ◌∙◌, arith}
use Rattle.std.specs.Prelude.{Contains, filter, map}
use Rattle.std.proofs.lemmas.Bool.{cases_Bool}

module _ {T : Type 0} where
  pub contains_first : (y : T) (ys : List T) → Contains (y ∷ ys) y
  contains_first y ys = (0, omega arith, refl)

  pub contains_later : (y : T) (ys : List T) (x : T) → Contains ys x → Contains (y ∷ ys) x
  contains_later y ys x (k, within, is) = (suc k, omega arith, is)

  -- a member is the first or among the others
  pub contains_cases : (y : T) (ys : List T) (x : T) → Contains (y ∷ ys) x → (y ≡ x) ⊎ Contains ys x
  contains_cases y ys x (zero, within, is) = inl is
  contains_cases y ys x (suc k, within, is) = inr (k, omega arith, is)

module _ {T : Type 0} where
  pub contains_map : {X : Type 0} (f : T → X) (xs : List T) (x : T) → Contains xs x → Contains (map f xs) (f x)
  contains_map f [] x (k, within, is) = absurd (omega arith)
  contains_map f (y ∷ ys) x there = elim (contains_cases y ys x there) [
    | inl same ↦ subst (Contains (f y ∷ map f ys)) (ap f same) (contains_first (f y) (map f ys))
    | inr later ↦ contains_later (f y) (map f ys) (f x) (contains_map f ys x later)
  ]

  pub mapped : {X : Type 0} (f : T → X) (xs : List T) (y : X) → Contains (map f xs) y → (x : T) × Contains xs x × (f x ≡ y)
  mapped f [] y (k, within, is) = absurd (omega arith)
  mapped f (x ∷ xs) y there = elim (contains_cases (f x) (map f xs) y there) [
    | inl same ↦ (x, contains_first x xs, same)
    | inr other ↦ (let later = mapped f xs y other in (later.0, contains_later x xs later.0 later.1, later.2))
  ]

  pub contains_filter : (p : T → Bool) (xs : List T) (x : T) → Contains xs x → p x ≡ true → Contains (filter p xs) x
  contains_filter p [] x (k, within, is) fits = absurd (omega arith)
  contains_filter p (y ∷ ys) x there fits = elim (contains_cases y ys x there) [
    | inl same ↦
        (let first : p y ≡ true = ap p same ∙ fits in
        rw first (subst (Contains (y ∷ filter p ys)) same (contains_first y (filter p ys))))
    | inr later ↦
        (let rest = contains_filter p ys x later fits in
        elim (cases_Bool (p y)) [
          | inl fit ↦ rw fit (contains_later y (filter p ys) x rest)
          | inr misfit ↦ rw misfit rest
        ])
  ]

  pub filtered : (p : T → Bool) (xs : List T) (x : T) → Contains (filter p xs) x → Contains xs x × (p x ≡ true)
  filtered p [] x (k, within, is) = absurd (omega arith)
  filtered p (y ∷ ys) x there = elim (cases_Bool (p y)) [
    | inl fit ↦ elim (contains_cases y (filter p ys) x (rw fit at there)) [
      | inl same ↦ (subst (Contains (y ∷ ys)) same (contains_first y ys), ap p (sym same) ∙ fit)
      | inr other ↦ (let later = filtered p ys x other in (contains_later y ys x later.0, later.1))
    ]
    | inr misfit ↦ (let later = filtered p ys x (rw misfit at there) in (contains_later y ys x later.0, later.1))
  ]
