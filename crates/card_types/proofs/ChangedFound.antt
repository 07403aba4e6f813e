-- What is found after one change.
use Rattle.std.proofs.Common.{◌≡◌, ◌⊎◌, inl, inr, Bool, true, false, List, ◌∷◌, Option, None, Some, refl, ap, sym, subst, arith}
use Rattle.std.specs.Prelude.{Contains, IfSome, find}
use Rattle.std.specs.Cmp.{IsTotalOrder}
use Rattle.std.specs.List.{cons_option}
use Rattle.std.specs.List.Sorted.{IsPermutation, IsStrictlySortedBy}
use Rattle.std.specs.declared.cmp.Ordering.{Ordering}
use Rattle.std.specs.declared.cmp.Ordering.TheVariants.{Equal}
use Rattle.std.proofs.lemmas.List.Sorted.{Contains-permutation, IsPermutation-sym, sum_by-IsPermutation}
use Rattle.std.proofs.lemmas.List.Sums.{sum_by-cons}
use Rattle.std.proofs.lemmas.Cmp.{tied_itself}
use Rattle.card_types.specs.RegistryChange.{IsChanged, IsPut, IsRemoved, IsReplaced}
use Rattle.card_types.proofs.AtMostOnce.{counted, once_from_sorted, tie_at, without_first}
use Rattle.card_types.proofs.LeastOfList.{found_fits, found_least, least_found, none_fits, none_found, tie}
use Rattle.card_types.proofs.Members.{contains_cases, contains_first, contains_later}

module _ {X : Type 0} (order : X → X → Ordering) (total : IsTotalOrder order) where
  -- two lists in order whose members that fit are the same
  same_found : (p : X → Bool) (xs ys : List X) → IsStrictlySortedBy order ys → ((z : X) → Contains xs z → p z ≡ true → Contains ys z)
      → ((z : X) → Contains ys z → p z ≡ true → Contains xs z) → IsStrictlySortedBy order xs → find p ys ≡ find p xs
  same_found p xs ys sorted_y to from sorted_x = by (find p ys) refl
    where
      by : (o : Option X) → find p ys ≡ o → o ≡ find p xs
      by None is = sym (none_found p xs (λ z there fits. none_fits p ys is z (to z there fits) fits))
      by (Some y) is =
          (let found = found_fits p ys y is in
          sym (least_found order total p xs sorted_x y (from y found.0 found.1) found.1
          (λ z there fits. found_least order total p ys sorted_y y is z (to z there fits) fits)))

  -- what fits neither the one that is gone nor the new one is found as before
  pub kept_found : (p : X → Bool) (gone new : Option X) (before after : List X) → IsStrictlySortedBy order before → IsChanged order gone new before after
      → IfSome gone (λ x. p x ≡ false) → IfSome new (λ x. p x ≡ false) → find p after ≡ find p before
  kept_found p gone new before after sorted changed misfit_gone misfit_new =
      same_found p before after changed.ascending
      (λ z there fits. among p gone after z misfit_gone fits (Contains-permutation _ _ z changed.same (with_more new before z there)))
      (λ z there fits. among p new before z misfit_new fits (Contains-permutation _ _ z (IsPermutation-sym _ _ changed.same) (with_more gone after z there)))
      sorted
    where
      with_more : (o : Option X) (xs : List X) (z : X) → Contains xs z → Contains (cons_option o xs) z
      with_more None xs z there = there
      with_more (Some x) xs z there = contains_later x xs z there

      among : (p : X → Bool) (o : Option X) (xs : List X) (z : X) → IfSome o (λ x. p x ≡ false) → p z ≡ true → Contains (cons_option o xs) z → Contains xs z
      among p None xs z misfit fits there = there
      among p (Some x) xs z misfit fits there = elim (contains_cases x xs z there) [
        | inl same ↦ (let clash = ap p same in cc)
        | inr later ↦ later
      ]

  -- what is put in is found by a test that fits it alone
  pub put_found : (p : X → Bool) (new : X) (before after : List X) → IsPut order new before after → p new ≡ true
      → ((y : X) → p y ≡ true → order new y ≡ Equal) → find p after ≡ Some new
  put_found p new before after put fits alone =
      least_found order total p after put.ascending new (Contains-permutation _ after new put.same (contains_first new before)) fits
      (λ y there fit above. (let tied = alone y fit in cc))

  -- what is put in place of another is found by a test that fits it alone
  pub replaced_found : (p : X → Bool) (gone new : X) (before after : List X) → IsReplaced order gone new before after → Contains before gone → p new ≡ true
      → ((y : X) → p y ≡ true → order new y ≡ Equal) → find p after ≡ Some new
  replaced_found p gone new before after replaced was fits alone =
      least_found order total p after replaced.ascending new (there (contains_cases gone after new (Contains-permutation _ _ new replaced.same (contains_first new before)))) fits
      (λ y there fit above. (let tied = alone y fit in cc))
    where
      there : (gone ≡ new) ⊎ Contains after new → Contains after new
      there (inr among) = among
      there (inl same) =
          (let alike : IsPermutation (gone ∷ before) (gone ∷ after) = subst (λ (x : X). IsPermutation (x ∷ before) (gone ∷ after)) (sym same) replaced.same in
          let rest = without_first order total gone before after (once_from_sorted order total after replaced.ascending) alike in
          subst (Contains after) same (Contains-permutation before after gone rest was))

  -- what is taken out is not found by a test that fits it alone
  pub removed_unfound : (p : X → Bool) (gone : X) (before after : List X) → IsStrictlySortedBy order before → IsRemoved order gone before after
      → ((y : X) → p y ≡ true → order gone y ≡ Equal) → find p after ≡ None
  removed_unfound p gone before after sorted removed alone = none_found p after (λ y there fits.
      (let first = tie_at order total y gone (alone y fits) in
      let second = counted order total y y after there (tied_itself total y) in
      let once = once_from_sorted order total before sorted y in
      omega (arith, sum_by-IsPermutation (tie order total y) before (gone ∷ after) removed.same, sum_by-cons (tie order total y) gone after)))
