-- A change of a list in strictly ascending order can be made, and leaves one list.
use Rattle.std.proofs.Common.{◌≡◌, ◌≢◌, inl, inr, List, [], ◌∷◌, Option, None, Some, refl, ap, sym, subst, ◌∙◌, arith}
use Rattle.std.specs.Prelude.{Contains}
use Rattle.std.specs.Cmp.{IsTotalOrder}
use Rattle.std.specs.List.Sorted.{IsPermutation, IsStrictlySortedBy}
use Rattle.std.specs.Ordering.{ordering_reverse}
use Rattle.std.specs.declared.cmp.Ordering.{Ordering}
use Rattle.std.specs.declared.cmp.Ordering.TheVariants.{Less, Equal, Greater}
use Rattle.std.proofs.lemmas.Cmp.{tied_itself}
use Rattle.std.specs.List.{cons_option}
use Rattle.std.proofs.lemmas.List.Elements.{All-contains_itself, All-weaker, recursion_from_All}
use Rattle.std.proofs.lemmas.List.Sorted.{Contains-permutation, IsPermutation-cons, IsPermutation-middle, IsPermutation-refl, IsPermutation-sym, IsPermutation-trans, length_permutation, sum_by-IsPermutation}
use Rattle.std.proofs.lemmas.List.Sums.{sum_by-cons}
use Rattle.card_types.specs.RegistryChange.{IsChanged, IsPut, IsRemoved, IsReplaced}
use Rattle.card_types.proofs.AtMostOnce.{counted, once_from_sorted, tie_at, without_first}
use Rattle.card_types.proofs.LeastOfList.{first_below, others_sorted, tie}
use Rattle.card_types.proofs.Members.{contains_cases, contains_first, contains_later}

module _ {X : Type 0} (order : X → X → Ordering) (total : IsTotalOrder order) where
  first_of_sorted : (x : X) (xs : List X) → ((y : X) → Contains xs y → order x y ≡ Less) → IsStrictlySortedBy order xs → IsStrictlySortedBy order (x ∷ xs)
  unfolding IsStrictlySortedBy
  first_of_sorted x xs below sorted =
      (recursion_from_All (λ y. order x y ≡ Less) xs (All-weaker (Contains xs) (λ y. order x y ≡ Less) below xs (All-contains_itself xs)), sorted)

  pub sorted_alone : (x : X) → IsStrictlySortedBy order (x ∷ [])
  unfolding IsStrictlySortedBy
  sorted_alone x = (tt, tt)

  -- two lists in order with the same members are one
  pub one_order : (xs ys : List X) → IsStrictlySortedBy order xs → IsStrictlySortedBy order ys → IsPermutation xs ys → xs ≡ ys
  one_order [] [] sorted_x sorted_y same = refl
  one_order [] (y ∷ ys) sorted_x sorted_y same = absurd (omega (arith, length_permutation [] (y ∷ ys) same))
  one_order (x ∷ xs) [] sorted_x sorted_y same = absurd (omega (arith, length_permutation (x ∷ xs) [] same))
  one_order (x ∷ xs) (y ∷ ys) sorted_x sorted_y same =
      let alike : x ≡ y = elim (contains_cases y ys x (Contains-permutation (x ∷ xs) (y ∷ ys) x same (contains_first x xs))) [
        | inl first ↦ sym first
        | inr later ↦ elim (contains_cases x xs y (Contains-permutation (y ∷ ys) (x ∷ xs) y (IsPermutation-sym (x ∷ xs) (y ∷ ys) same) (contains_first y ys))) [
          | inl first ↦ first
          | inr also ↦
              (let below = first_below order y ys sorted_y x later in
              let above = first_below order x xs sorted_x y also in
              let turned = total.antisymm x y ∙ ap ordering_reverse below in cc)
        ]
      ] in
      let shared : IsPermutation (x ∷ xs) (x ∷ ys) = subst (λ (z : X). IsPermutation (x ∷ xs) (z ∷ ys)) (sym alike) same in
      let rest = without_first order total x xs ys (once_from_sorted order total ys (others_sorted order y ys sorted_y)) shared in
      let behind = one_order xs ys (others_sorted order x xs sorted_x) (others_sorted order y ys sorted_y) rest in
      cc

  -- what ties with none can be put in
  pub put_in : (new : X) (before : List X) → IsStrictlySortedBy order before → ((y : X) → Contains before y → order new y ≢ Equal)
      → (after : List X) × IsPut order new before after
  put_in new [] sorted other = (new ∷ [], record { ascending = sorted_alone new; same = IsPermutation-refl (new ∷ []) })
  put_in new (y ∷ ys) sorted other =
      at new y ys sorted (order new y) refl (other y (contains_first y ys)) (put_in new ys (others_sorted order y ys sorted) (λ z there. other z (contains_later y ys z there)))
    where
      at : (new y : X) (ys : List X) → IsStrictlySortedBy order (y ∷ ys) → (o : Ordering) → order new y ≡ o → order new y ≢ Equal
          → (after : List X) × IsPut order new ys after → (after : List X) × IsPut order new (y ∷ ys) after
      at new y ys sorted Equal is differs behind = absurd (differs is)
      at new y ys sorted Less is differs behind = (
        new ∷ y ∷ ys,
        record {
          ascending = first_of_sorted new (y ∷ ys)
              (λ z there. elim (contains_cases y ys z there) [
                | inl same ↦ ap (order new) (sym same) ∙ is
                | inr later ↦ total.trans new y z is (first_below order y ys sorted z later)
              ])
              sorted;
          same = IsPermutation-refl (new ∷ y ∷ ys);
        },
      )
      at new y ys sorted Greater is differs behind =
          (let up : order y new ≡ Less = total.antisymm y new ∙ ap ordering_reverse is in (
            y ∷ behind.0,
            record {
              ascending = first_of_sorted y behind.0
                  (λ z there. elim (contains_cases new ys z (Contains-permutation behind.0 (new ∷ ys) z (IsPermutation-sym (new ∷ ys) behind.0 behind.1.same) there)) [
                    | inl same ↦ ap (order y) (sym same) ∙ up
                    | inr later ↦ first_below order y ys sorted z later
                  ])
                  behind.1.ascending;
              same = IsPermutation-trans (new ∷ y ∷ ys) (y ∷ new ∷ ys) (y ∷ behind.0) (IsPermutation-middle (new ∷ []) y ys) (IsPermutation-cons y (new ∷ ys) behind.0 behind.1.same);
            },
          ))

  -- a member can be taken out
  pub take_out : (gone : X) (before : List X) → IsStrictlySortedBy order before → Contains before gone → (after : List X) × IsRemoved order gone before after
  take_out gone [] sorted there = absurd (omega (arith, there.1))
  take_out gone (y ∷ ys) sorted there = elim (contains_cases y ys gone there) [
    | inl same ↦
        (ys, record { ascending = others_sorted order y ys sorted; same = subst (λ (x : X). IsPermutation (y ∷ ys) (x ∷ ys)) same (IsPermutation-refl (y ∷ ys)) })
    | inr later ↦
        (let behind = take_out gone ys (others_sorted order y ys sorted) later in (
          y ∷ behind.0,
          record {
            ascending = first_of_sorted y behind.0
                (λ z among. first_below order y ys sorted z (Contains-permutation (gone ∷ behind.0) ys z (IsPermutation-sym ys (gone ∷ behind.0) behind.1.same) (contains_later gone behind.0 z among)))
                behind.1.ascending;
            same = IsPermutation-trans (y ∷ ys) (y ∷ gone ∷ behind.0) (gone ∷ y ∷ behind.0) (IsPermutation-cons y ys (gone ∷ behind.0) behind.1.same) (IsPermutation-middle (y ∷ []) gone behind.0);
          },
        ))
  ]

  -- a member can make room for one with its name
  pub put_in_place : (gone new : X) (before : List X) → IsStrictlySortedBy order before → Contains before gone → order gone new ≡ Equal
      → (after : List X) × IsReplaced order gone new before after
  put_in_place gone new before sorted there alike =
      let out = take_out gone before sorted there in
      let apart : (y : X) → Contains out.0 y → order new y ≢ Equal = λ y among tied.
      (let with_gone = total.congr gone new y alike in
      let one = tie_at order total y gone (with_gone ∙ tied) in
      let two = counted order total y y out.0 among (tied_itself total y) in
      let once = once_from_sorted order total before sorted y in
      omega (arith, sum_by-IsPermutation (tie order total y) before (gone ∷ out.0) out.1.same, sum_by-cons (tie order total y) gone out.0)) in
      let put = put_in new out.0 out.1.ascending apart in (
        put.0,
        record {
          ascending = put.1.ascending;
          same = IsPermutation-trans (new ∷ before) (new ∷ gone ∷ out.0) (gone ∷ put.0) (IsPermutation-cons new before (gone ∷ out.0) out.1.same)
              (IsPermutation-trans (new ∷ gone ∷ out.0) (gone ∷ new ∷ out.0) (gone ∷ put.0) (IsPermutation-middle (new ∷ []) gone out.0) (IsPermutation-cons gone (new ∷ out.0) put.0 put.1.same));
        },
      )

  -- a change leaves one list
  pub one_change : (gone new : Option X) (before one other : List X) → IsChanged order gone new before one → IsChanged order gone new before other → one ≡ other
  one_change None new before one other first second =
      one_order one other first.ascending second.ascending
      (IsPermutation-trans one (cons_option new before) other (IsPermutation-sym (cons_option new before) one first.same) second.same)
  one_change (Some gone) new before one other first second =
      one_order one other first.ascending second.ascending
      (without_first order total gone one other (once_from_sorted order total other second.ascending)
      (IsPermutation-trans (gone ∷ one) (cons_option new before) (gone ∷ other) (IsPermutation-sym (cons_option new before) (gone ∷ one) first.same) second.same))
