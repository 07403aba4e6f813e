-- Data objects with one that is put in the place of the one with its tag, and with several.
use Rattle.std.proofs.Common.{◌≡◌, inl, inr, ℕ, Bool, true, false, ◌==◌, List, [], ◌∷◌, Option, None, Some, refl, ap, sym, subst, ◌∙◌}
use Rattle.std.specs.Prelude.{filter, find, not}
use Rattle.std.specs.List.{list_any}
use Rattle.std.specs.List.Sorted.{IsPermutation, IsStrictlySortedBy}
use Rattle.std.specs.Ordering.{nat_cmp}
use Rattle.std.specs.declared.cmp.Ordering.{Ordering}
use Rattle.std.specs.declared.cmp.Ordering.TheVariants.{Equal}
use Rattle.std.proofs.lemmas.Bool.{and_from, and_parts, cases_Bool, or_parts, eq-eqb, eqb-true}
use Rattle.std.proofs.lemmas.List.Sorted.{IsPermutation-cons, IsPermutation-middle, IsPermutation-refl, IsPermutation-sym, IsPermutation-trans}
use Rattle.std.proofs.lemmas.Map.Lookups.{exact_unsigned}
use Rattle.policy_machine.specs.Prelude.{Element, IsArranged, IsChanged, Object, aid_order, is_object_of, object_order, same_aid, with_object, with_objects}
use Rattle.card_types.proofs.AtMostOnce.{once_from_sorted, without_first}
use Rattle.card_types.proofs.ChangeExists.{put_in, put_in_place}
use Rattle.card_types.proofs.LeastOfList.{first_below, found_fits, none_fits, none_found, others_sorted}
use Rattle.card_types.proofs.NotAbove.{then_equal}
use Rattle.card_types.proofs.ObjectNames.{object_order_total}
use Rattle.card_types.proofs.SameAid.{aid_equal_same, aid_same_equal, same_aid_decides}
use Rattle.card_types.proofs.SetNames.{same_number}
use Rattle.policy_machine.proofs.Filtered.{filter_same}

module _ {X : Type 0} (p : X → Bool) where
  -- where none is found, all are kept
  pub keeps_all : (xs : List X) → find p xs ≡ None → filter (λ x. not (p x)) xs ≡ xs
  keeps_all [] none = refl
  keeps_all (x ∷ xs) none = elim (cases_Bool (p x)) [
    | inl fit ↦ (let found = rw fit at none in cc)
    | inr misfit ↦ rw misfit (ap (λ (rest : List X). x ∷ rest) (keeps_all xs (rw misfit at none)))
  ]

  -- where a test passes none, none is found
  pub none_there : (xs : List X) → list_any p xs ≡ false → find p xs ≡ None
  none_there [] none = refl
  none_there (x ∷ xs) none =
      let parts = or_parts (p x) (list_any p xs) none in
      rw parts.0 (none_there xs parts.1)

  pub none_any : (xs : List X) → find p xs ≡ None → list_any p xs ≡ false
  none_any [] none = refl
  none_any (x ∷ xs) none = elim (cases_Bool (p x)) [
    | inl fit ↦ (let found = rw fit at none in cc)
    | inr misfit ↦ rw misfit (none_any xs (rw misfit at none))
  ]

  pub some_any : (xs : List X) (x : X) → find p xs ≡ Some x → list_any p xs ≡ true
  some_any [] x found = cc
  some_any (y ∷ xs) x found = elim (cases_Bool (p y)) [
    | inl fit ↦ rw fit refl
    | inr misfit ↦ rw misfit (some_any xs x (rw misfit at found))
  ]

  module _ (order : X → X → Ordering) where
    -- the one that fits is the first, and the others are kept
    kept_others : (alike : (x y : X) → p x ≡ true → p y ≡ true → order x y ≡ Equal) → (xs : List X) → IsStrictlySortedBy order xs → (x : X) → find p xs ≡ Some x
        → IsPermutation xs (x ∷ filter (λ y. not (p y)) xs)
    kept_others alike [] sorted x found = cc
    kept_others alike (y ∷ ys) sorted x found = elim (cases_Bool (p y)) [
      | inl fit ↦
          (let same : y ≡ x = (let here = rw fit at found in cc) in
          let none : find p ys ≡ None = none_found p ys (λ z there fits.
          (let below = first_below order y ys sorted z there in
          let tied = alike y z fit fits in cc)) in
          rw (fit, keeps_all ys none) (subst (λ (z : X). IsPermutation (y ∷ ys) (z ∷ ys)) same (IsPermutation-refl (y ∷ ys))))
      | inr misfit ↦
          (let behind = kept_others alike ys (others_sorted order y ys sorted) x (rw misfit at found) in
          rw misfit
          (IsPermutation-trans (y ∷ ys) (y ∷ x ∷ filter (λ z. not (p z)) ys) (x ∷ y ∷ filter (λ z. not (p z)) ys)
          (IsPermutation-cons y ys (x ∷ filter (λ z. not (p z)) ys) behind)
          (IsPermutation-middle (y ∷ []) x (filter (λ z. not (p z)) ys))))
    ]

pub is_of_parts : (owner : List ℕ) (tag : ℕ) (x : Object) → is_object_of owner tag x ≡ true → (x.owner ≡ owner) × (x.tag ≡ tag)
is_of_parts owner tag x fits =
    let parts = and_parts (same_aid x.owner owner) (x.tag == tag) fits in
    ((same_aid_decides x.owner owner).0 parts.0, eqb-true x.tag tag parts.1)

pub is_of_from : (owner : List ℕ) (tag : ℕ) (x : Object) → x.owner ≡ owner → x.tag ≡ tag → is_object_of owner tag x ≡ true
is_of_from owner tag x owners tags =
    and_from (same_aid x.owner owner) (x.tag == tag) ((same_aid_decides x.owner owner).1 owners) (eq-eqb x.tag tag tags)

-- objects tie by domain and tag
tied_from : (x y : Object) → x.owner ≡ y.owner → x.tag ≡ y.tag → object_order x y ≡ Equal
tied_from x y owners tags = rw (aid_same_equal x.owner y.owner owners) (same_number x.tag y.tag tags)

tied_parts : (x y : Object) → object_order x y ≡ Equal → (x.owner ≡ y.owner) × (x.tag ≡ y.tag)
tied_parts x y tied =
    let parts = then_equal (aid_order x.owner y.owner) (nat_cmp x.tag y.tag) tied in
    (aid_equal_same x.owner y.owner parts.0, exact_unsigned x.tag y.tag parts.1)

module _ (owner : List ℕ) where
  abbrev pub object_from : Element → Object
  object_from element = record { owner = owner; tag = element.tag; value = element.value }

  fits_alike : (tag : ℕ) (x y : Object) → is_object_of owner tag x ≡ true → is_object_of owner tag y ≡ true → object_order x y ≡ Equal
  fits_alike tag x y fit_x fit_y =
      let first = is_of_parts owner tag x fit_x in
      let second = is_of_parts owner tag y fit_y in
      tied_from x y (first.0 ∙ sym second.0) (first.1 ∙ sym second.1)

  -- Arranged objects can be arranged again with one more, which is put in the place of the one with its tag.
  pub record IsStored (objects arranged : List Object) (element : Element) : Type 0 where
    pub after : List Object
    pub is : IsArranged object_order (with_object owner objects element) after
    pub changed : IsChanged object_order (find (is_object_of owner element.tag) arranged) (Some (object_from element)) arranged after

  module _ (objects arranged : List Object) (element : Element) (is : IsArranged object_order objects arranged) where
    abbrev p : Object → Bool
    p object = is_object_of owner element.tag object

    abbrev new : Object
    new = object_from element

    kept : IsPermutation (new ∷ filter (λ x. not (p x)) objects) (new ∷ filter (λ x. not (p x)) arranged)
    kept =
        IsPermutation-cons new (filter (λ x. not (p x)) objects) (filter (λ x. not (p x)) arranged)
        (filter_same (λ x. not (p x)) objects arranged is.same)

    stored_by : (found : Option Object) → find p arranged ≡ found → IsStored objects arranged element
    stored_by None found =
        (let put = put_in object_order object_order_total new arranged is.ascending (λ y there tied.
        (let parts = tied_parts new y tied in
        none_fits p arranged found y there (is_of_from owner element.tag y (sym parts.0) (sym parts.1)))) in
        record {
          after = put.0;
          is = record {
            ascending = put.1.ascending;
            same = IsPermutation-trans (with_object owner objects element) (new ∷ filter (λ x. not (p x)) arranged) put.0 kept
                (subst (λ (rest : List Object). IsPermutation (new ∷ rest) put.0) (sym (keeps_all p arranged found)) put.1.same);
          };
          changed = subst (λ (gone : Option Object). IsChanged object_order gone (Some new) arranged put.0) (sym found) put.1;
        })
    stored_by (Some gone) found =
        (let fits = found_fits p arranged gone found in
        let parts = is_of_parts owner element.tag gone fits.1 in
        let put = put_in_place object_order object_order_total gone new arranged is.ascending fits.0 (tied_from gone new parts.0 parts.1) in
        let rest = filter (λ x. not (p x)) arranged in
        let out : IsPermutation (new ∷ arranged) (new ∷ gone ∷ rest) =
        IsPermutation-cons new arranged (gone ∷ rest) (kept_others p object_order (fits_alike element.tag) arranged is.ascending gone found) in
        let moved : IsPermutation (new ∷ arranged) (gone ∷ new ∷ rest) =
        IsPermutation-trans (new ∷ arranged) (new ∷ gone ∷ rest) (gone ∷ new ∷ rest) out (IsPermutation-middle (new ∷ []) gone rest) in
        let whole : IsPermutation (gone ∷ new ∷ rest) (gone ∷ put.0) =
        IsPermutation-trans (gone ∷ new ∷ rest) (new ∷ arranged) (gone ∷ put.0) (IsPermutation-sym (new ∷ arranged) (gone ∷ new ∷ rest) moved) put.1.same in
        record {
          after = put.0;
          is = record {
            ascending = put.1.ascending;
            same = IsPermutation-trans (with_object owner objects element) (new ∷ rest) put.0 kept
                (without_first object_order object_order_total gone (new ∷ rest) put.0 (once_from_sorted object_order object_order_total put.0 put.1.ascending) whole);
          };
          changed = subst (λ (g : Option Object). IsChanged object_order g (Some new) arranged put.0) (sym found) put.1;
        })

    pub one_stored : IsStored objects arranged element
    one_stored = stored_by (find p arranged) refl

  -- Arranged objects can be arranged again with several, one after the other.
  pub several_stored : (objects arranged : List Object) (elements : List Element) → IsArranged object_order objects arranged
      → (after : List Object) × IsArranged object_order (with_objects owner objects elements) after
  several_stored objects arranged [] is = (arranged, is)
  several_stored objects arranged (element ∷ elements) is =
      let one = one_stored objects arranged element is in
      several_stored (with_object owner objects element) one.after elements one.is
