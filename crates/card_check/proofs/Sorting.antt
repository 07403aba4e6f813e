-- What is in slots, in strictly ascending order.
use Rattle.std.proofs.Common.{◌≡◌, ◌≢◌, inl, inr, ℕ, zero, suc, Bool, true, List, [], ◌∷◌, Option, None, Some, refl, ap, subst, ◌∙◌, arith}
use Rattle.std.specs.Prelude.{Contains, filter, map}
use Rattle.std.specs.Cmp.{IsTotalOrder}
use Rattle.std.specs.List.Sorted.{IsPermutation, IsStrictlySortedBy}
use Rattle.std.specs.declared.cmp.Ordering.{Ordering}
use Rattle.std.specs.declared.cmp.Ordering.TheVariants.{Equal}
use Rattle.std.proofs.lemmas.Bool.{cases_Bool}
use Rattle.std.proofs.lemmas.List.Sorted.{Contains-permutation, IsPermutation-cons, IsPermutation-refl, IsPermutation-sym, IsPermutation-trans}
use Rattle.card_types.specs.Represents.{things_in, thing_in}
use Rattle.card_types.proofs.ChangeExists.{put_in}
use Rattle.card_types.proofs.Members.{filtered, mapped}
use Rattle.card_types.proofs.Shows.{held_from_used}

-- a list in order, with the same members
pub record Sorted {X : Type 0} (order : X → X → Ordering) (xs : List X) : Type 0 where
  pub list : List X
  pub ascending : IsStrictlySortedBy order list
  pub same : IsPermutation xs list

-- no two slots have things that are kept and tie
abbrev pub AreApart : {T X : Type 0} → (X → X → Ordering) → (T → X) → (T → Bool) → List (Option T) → Type 0
AreApart order view keep slots = (a b : ℕ) (x y : _) → thing_in slots a ≡ Some x → thing_in slots b ≡ Some y → keep x ≡ true → keep y ≡ true
    → order (view x) (view y) ≡ Equal → a ≡ b

module _ {T X : Type 0} (order : X → X → Ordering) (total : IsTotalOrder order) (view : T → X) where
  sorted_none : Sorted order []
  unfolding IsStrictlySortedBy
  sorted_none = record { list = []; ascending = tt; same = IsPermutation-refl [] }

  -- one more goes in where it ties with none
  sorted_more : (x : X) (xs : List X) → ((y : X) → Contains xs y → order x y ≢ Equal) → Sorted order xs → Sorted order (x ∷ xs)
  sorted_more x xs other sorted =
      let put = put_in order total x sorted.list sorted.ascending (λ y there. other y (Contains-permutation sorted.list xs y (IsPermutation-sym xs sorted.list sorted.same) there)) in
      record {
        list = put.0;
        ascending = put.1.ascending;
        same = IsPermutation-trans (x ∷ xs) (x ∷ sorted.list) put.0 (IsPermutation-cons x xs sorted.list sorted.same) put.1.same;
      }

  pub sort_kept : (keep : T → Bool) (slots : List (Option T)) → AreApart order view keep slots → Sorted order (map view (filter keep (things_in slots)))
  sort_kept keep [] apart = sorted_none
  sort_kept keep (None ∷ slots) apart =
      sort_kept keep slots (λ a b x y at_a at_b kept_x kept_y tied. omega (arith, apart (suc a) (suc b) x y at_a at_b kept_x kept_y tied))
  sort_kept keep (Some thing ∷ slots) apart =
      let rest = sort_kept keep slots (λ a b x y at_a at_b kept_x kept_y tied. omega (arith, apart (suc a) (suc b) x y at_a at_b kept_x kept_y tied)) in
      elim (cases_Bool (keep thing)) [
        | inl kept ↦ rw kept (sorted_more (view thing) (map view (filter keep (things_in slots))) (λ y there tied.
            (let from = mapped view (filter keep (things_in slots)) y there in
            let fits = filtered keep (things_in slots) from.0 from.1 in
            let at = held_from_used slots from.0 fits.0 in
            omega (arith, apart zero (suc at.0) thing from.0 refl at.1 kept fits.1 (ap (order (view thing)) from.2 ∙ tied))))
            rest)
        | inr dropped ↦ rw dropped rest
      ]

  all_kept : (things : List T) → filter (λ _. true) things ≡ things
  all_kept [] = refl
  all_kept (t ∷ things) = ap (λ rest. t ∷ rest) (all_kept things)

  pub sort_used : (slots : List (Option T)) → AreApart order view (λ _. true) slots → Sorted order (map view (things_in slots))
  sort_used slots apart = subst (λ (things : List T). Sorted order (map view things)) (all_kept (things_in slots)) (sort_kept (λ _. true) slots apart)
