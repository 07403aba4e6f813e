-- A list in strictly ascending order of AIDs in which the thing with one AID is changed, or taken out.
use Rattle.std.proofs.Common.{◌≡◌, inl, inr, ℕ, ◌≤◌, Bool, true, not, cond, List, [], ◌∷◌, refl, ap, sym, subst, ◌∙◌, arith}
use Rattle.std.specs.Prelude.{Contains, filter, map}
use Rattle.std.specs.Cmp.{IsTotalOrder}
use Rattle.std.specs.List.{sum_by}
use Rattle.std.specs.List.Sorted.{IsPermutation, IsStrictlySortedBy}
use Rattle.std.specs.Ordering.{ordering_reverse}
use Rattle.std.specs.declared.cmp.Ordering.{Ordering}
use Rattle.std.specs.declared.cmp.Ordering.TheVariants.{Less, Equal, Greater}
use Rattle.std.proofs.lemmas.Bool.{cases_Bool, cond_both}
use Rattle.std.proofs.lemmas.Cmp.{nat_list_cmp_total, on_total}
use Rattle.std.proofs.lemmas.List.Kept.{IsStrictlySortedBy-filter}
use Rattle.std.proofs.lemmas.List.Sorted.{Contains-permutation, IsPermutation-cons, IsPermutation-middle, IsPermutation-refl, IsPermutation-sym, IsPermutation-trans, sum_by-IsPermutation}
use Rattle.std.proofs.lemmas.List.Sums.{sum_by-cons}
use Rattle.card_types.specs.Aid.{aid_order, same_aid}
use Rattle.card_types.specs.RegistryChange.{IsRemoved, IsReplaced}
use Rattle.card_types.proofs.AtMostOnce.{AtMostOnce, once_from_sorted, same_members}
use Rattle.card_types.proofs.LeastOfList.{first_below, others_sorted, sorted_by_name, tie}
use Rattle.card_types.proofs.Members.{contains_cases, contains_filter, contains_first, contains_later, filtered}
use Rattle.card_types.proofs.RaisedCounter.{one_changed}
use Rattle.card_types.proofs.SameAid.{aid_same_equal, same_aid_decides}

-- a map that keeps names
names_kept : {X Y : Type 0} (name : X → Y) (f : X → X) → ((x : X) → name (f x) ≡ name x) → (xs : List X) → map name (map f xs) ≡ map name xs
names_kept name f kept [] = refl
names_kept name f kept (x ∷ xs) = rw (kept x, names_kept name f kept xs)

-- what a filter keeps of a map
pub filter_of_map : {T X : Type 0} (view : T → X) (p : X → Bool) (q : T → Bool) (xs : List T) → ((x : T) → Contains xs x → p (view x) ≡ q x)
    → filter p (map view xs) ≡ map view (filter q xs)
filter_of_map view p q [] alike = refl
filter_of_map view p q (x ∷ xs) alike =
    let rest = filter_of_map view p q xs (λ y there. alike y (contains_later x xs y there)) in
    let first = alike x (contains_first x xs) in
    elim (cases_Bool (q x)) [
      | inl fits ↦ rw (first, fits) (ap (λ ys. view x ∷ ys) rest)
      | inr misfits ↦ rw (first, misfits) rest
    ]

-- two filters, in either order
pub filters_exchanged : {T : Type 0} (p q : T → Bool) (xs : List T) → filter p (filter q xs) ≡ filter q (filter p xs)
filters_exchanged p q [] = refl
filters_exchanged p q (x ∷ xs) =
    let rest = filters_exchanged p q xs in
    elim (cases_Bool (p x)) [
      | inl fits ↦ elim (cases_Bool (q x)) [
        | inl both ↦ rw (fits, both, fits) (ap (λ ys. x ∷ ys) rest)
        | inr one ↦ rw (fits, one) rest
      ]
      | inr misfits ↦ elim (cases_Bool (q x)) [
        | inl one ↦ rw (misfits, one, misfits) rest
        | inr none ↦ rw (misfits, none) rest
      ]
    ]

module _ {X : Type 0} (order : X → X → Ordering) (total : IsTotalOrder order) where
  fewer_tie : (p : X → Bool) (k : X) (xs : List X) → sum_by (tie order total k) (filter p xs) ≤ sum_by (tie order total k) xs
  fewer_tie p k [] = omega arith
  fewer_tie p k (x ∷ xs) =
      let rest = fewer_tie p k xs in
      elim (cases_Bool (p x)) [
        | inl fits ↦ rw fits (omega (arith, sum_by-cons (tie order total k) x xs, sum_by-cons (tie order total k) x (filter p xs)))
        | inr misfits ↦ rw misfits (omega (arith, sum_by-cons (tie order total k) x xs))
      ]

  -- the members that fit, of a list and of one with the same members in order
  pub same_filtered : (p : X → Bool) (us vs : List X) → IsStrictlySortedBy order vs → IsPermutation us vs → IsPermutation (filter p us) (filter p vs)
  same_filtered p us vs sorted same =
      let once_v : AtMostOnce order total vs = once_from_sorted order total vs sorted in
      same_members order total (filter p us) (filter p vs)
      (λ k. omega (arith, fewer_tie p k us, once_v k, sum_by-IsPermutation (tie order total k) us vs same))
      (λ k. omega (arith, fewer_tie p k vs, once_v k))
      (λ z there. (let kept = filtered p us z there in contains_filter p vs z (Contains-permutation us vs z same kept.0) kept.1))
      (λ z there. (let kept = filtered p vs z there in contains_filter p us z (Contains-permutation vs us z (IsPermutation-sym us vs same) kept.0) kept.1))

  module _ (fits : X → Bool) (x : X) (alone : (y : X) → fits y ≡ true → order x y ≡ Equal) where
    none_after : (ys : List X) → ((y : X) → Contains ys y → order x y ≡ Less) → filter (λ y. not (fits y)) ys ≡ ys
    none_after [] below = refl
    none_after (y ∷ ys) below =
        let rest = none_after ys (λ z there. below z (contains_later y ys z there)) in
        elim (cases_Bool (fits y)) [
          | inl fit ↦ (let tied = alone y fit in let less = below y (contains_first y ys) in cc)
          | inr misfit ↦ rw (misfit, rest) refl
        ]

    -- the list without the one that fits
    one_removed : (xs : List X) → fits x ≡ true → IsStrictlySortedBy order xs → Contains xs x → IsPermutation xs (x ∷ filter (λ y. not (fits y)) xs)
    one_removed [] fit sorted there = absurd (omega (arith, there.1))
    one_removed (y ∷ ys) fit sorted there = elim (contains_cases y ys x there) [
      | inl same ↦
          (let first : fits y ≡ true = ap fits same ∙ fit in
          let behind = none_after ys (λ z later. ap (λ a. order a z) (sym same) ∙ first_below order y ys sorted z later) in
          rw (first, behind) (subst (λ (z : X). IsPermutation (y ∷ ys) (z ∷ ys)) same (IsPermutation-refl (y ∷ ys))))
      | inr later ↦
          (let above : order x y ≡ Greater = total.antisymm x y ∙ ap ordering_reverse (first_below order y ys sorted x later) in
          let rest = one_removed ys fit (others_sorted order y ys sorted) later in
          elim (cases_Bool (fits y)) [
            | inl clash ↦ (let tied = alone y clash in cc)
            | inr misfit ↦
                rw misfit (IsPermutation-trans _ _ _ (IsPermutation-cons y ys _ rest) (IsPermutation-middle (y ∷ []) x (filter (λ z. not (fits z)) ys)))
          ])
    ]

module _ {X : Type 0} (name : X → List ℕ) (aid : List ℕ) where
  abbrev order : X → X → Ordering
  order a b = aid_order (name a) (name b)

  total : IsTotalOrder order
  total = on_total name nat_list_cmp_total

  alone : (x : X) → name x ≡ aid → (y : X) → same_aid (name y) aid ≡ true → order x y ≡ Equal
  alone x named y fits = aid_same_equal (name x) (name y) (named ∙ sym ((same_aid_decides (name y) aid).0 fits))

  -- the thing with the AID is replaced
  pub replaced_named : (change : X → X) → ((x : X) → name (change x) ≡ name x) → (x : X) (xs : List X) → name x ≡ aid → IsStrictlySortedBy aid_order (map name xs)
      → Contains xs x → IsReplaced (λ a b. aid_order (name a) (name b)) x (change x) xs (map (λ y. cond (same_aid (name y) aid) (change y) y) xs)
  replaced_named change kept x xs named sorted there =
      let f : X → X = λ y. cond (same_aid (name y) aid) (change y) y in
      let fit : same_aid (name x) aid ≡ true = (same_aid_decides (name x) aid).1 named in
      let here : f x ≡ change x = rw fit refl in
      let names : map name (map f xs) ≡ map name xs =
      names_kept name f (λ y. cond_both (same_aid (name y) aid) (change y) y (λ z. name z ≡ name y) (λ _. kept y) (λ _. refl)) xs in record {
        ascending = sorted_by_name aid_order name (map f xs) (subst (IsStrictlySortedBy aid_order) (sym names) sorted);
        same = subst (λ (z : X). IsPermutation (z ∷ xs) (x ∷ map f xs)) here
            (one_changed order total f (λ y. same_aid (name y) aid) (λ y other. rw other refl) x xs (alone x named) (sorted_by_name aid_order name xs sorted) there);
      }

  -- the thing with the AID is taken out
  pub removed_named : (x : X) (xs : List X) → name x ≡ aid → IsStrictlySortedBy aid_order (map name xs)
      → Contains xs x → IsRemoved (λ a b. aid_order (name a) (name b)) x xs (filter (λ y. not (same_aid (name y) aid)) xs)
  removed_named x xs named sorted there =
      let ascending = sorted_by_name aid_order name xs sorted in record {
        ascending = IsStrictlySortedBy-filter order (λ y. not (same_aid (name y) aid)) xs ascending;
        same = one_removed order total (λ y. same_aid (name y) aid) x (alone x named) xs ((same_aid_decides (name x) aid).1 named) ascending there;
      }

  -- nothing has the AID
  pub none_changed : (change : X → X) (xs : List X) → ((x : X) → Contains xs x → name x ≡ aid → ⊥) → map (λ y. cond (same_aid (name y) aid) (change y) y) xs ≡ xs
  none_changed change [] none = refl
  none_changed change (x ∷ xs) none =
      let rest = none_changed change xs (λ y there. none y (contains_later x xs y there)) in
      elim (cases_Bool (same_aid (name x) aid)) [
        | inl fit ↦ absurd (none x (contains_first x xs) ((same_aid_decides (name x) aid).0 fit))
        | inr misfit ↦ rw (misfit, rest) refl
      ]
