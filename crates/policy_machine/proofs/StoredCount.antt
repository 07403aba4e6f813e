-- How many data objects there are with those that are put.
use Rattle.std.proofs.Common.{◌≡◌, inl, inr, ℕ, ◌+◌, Bool, true, false, ◌||◌, List, [], ◌∷◌, length, Option, None, Some, refl, ap, sym, ◌∙◌, arith}
use Rattle.std.specs.Prelude.{filter, find, not}
use Rattle.std.specs.List.{cons_option, list_any}
use Rattle.std.proofs.lemmas.Bool.{cases_eq, eq-eqb, ne_eqb, not_from_false, false_from_ne_true}
use Rattle.std.proofs.lemmas.List.Sorted.{length_permutation, list_any-IsPermutation}
use Rattle.std.proofs.lemmas.Map.Views.{any-filter_same}
use Rattle.policy_machine.specs.Prelude.{Element, IsArranged, is_object_of, new_tags, object_order, with_object, with_objects}
use Rattle.card_types.specs.Registry as registry
use Rattle.policy_machine.proofs.NewTags.{count_if, first_new, with_tag}
use Rattle.policy_machine.proofs.ObjectStored.{is_of_from, is_of_parts, none_any, object_from, one_stored, some_any}

module _ (owner : List ℕ) where
  -- with one more object its tag is there
  pub has_with : (there : ℕ → Bool) (objects : List registry.Object) (element : Element) → ((tag : ℕ) → list_any (is_object_of owner tag) objects ≡ there tag)
      → (tag : ℕ) → list_any (is_object_of owner tag) (with_object owner objects element) ≡ with_tag there element.tag tag
  has_with there objects element same tag = elim (cases_eq element.tag tag) [
    | inl is ↦
        (let first : is_object_of owner tag (object_from owner element) ≡ true = is_of_from owner tag (object_from owner element) refl is in
        ap (λ (b : Bool). b || rest) first ∙ sym (ap (λ (b : Bool). b || there tag) (eq-eqb element.tag tag is)))
    | inr other ↦
        (let first : is_object_of owner tag (object_from owner element) ≡ false =
        false_from_ne_true (is_object_of owner tag (object_from owner element)) (λ fits. other (is_of_parts owner tag (object_from owner element) fits).1) in
        let kept : rest ≡ list_any (is_object_of owner tag) objects =
        any-filter_same (is_object_of owner tag) (λ x. not (is_object_of owner element.tag x)) true (λ x fits.
        not_from_false (is_object_of owner element.tag x) (false_from_ne_true (is_object_of owner element.tag x) (λ also.
        other (sym (is_of_parts owner element.tag x also).1 ∙ (is_of_parts owner tag x fits).1)))) objects in
        ap (λ (b : Bool). b || rest) first ∙ kept ∙ same tag ∙ sym (ap (λ (b : Bool). b || there tag) (ne_eqb element.tag tag other)))
  ]
    where
      rest : Bool
      rest = list_any (is_object_of owner tag) (filter (λ x. not (is_object_of owner element.tag x)) objects)

  -- there is one object more where its tag was not there
  length_with : (there : Bool) (objects arranged : List registry.Object) (element : Element) → IsArranged object_order objects arranged
      → list_any (is_object_of owner element.tag) objects ≡ there → length (with_object owner objects element) ≡ length objects + count_if (not there)
  length_with there objects arranged element is has =
      let one = one_stored owner objects arranged element is in
      let before = length_permutation objects arranged is.same in
      let after = length_permutation (with_object owner objects element) one.after one.is.same in
      let found = find (is_object_of owner element.tag) arranged in
      let changed = length_permutation (object_from owner element ∷ arranged) (cons_option found one.after) one.changed.same in
      let has_arranged = sym (list_any-IsPermutation (is_object_of owner element.tag) objects arranged is.same) ∙ has in
      let more = by found refl has_arranged one.after changed in
      omega (arith, before, after, more)
    where
      by : (found : Option registry.Object) → find (is_object_of owner element.tag) arranged ≡ found → list_any (is_object_of owner element.tag) arranged ≡ there
          → (after : List registry.Object) → length (cons_option found after) ≡ length (object_from owner element ∷ arranged) → length after ≡ length arranged + count_if (not there)
      by None found has after changed =
          (let none : there ≡ false = sym has ∙ none_any (is_object_of owner element.tag) arranged found in
          let one = ap (λ (b : Bool). count_if (not b)) none in
          omega (arith, one, changed))
      by (Some gone) found has after changed =
          (let some : there ≡ true = sym has ∙ some_any (is_object_of owner element.tag) arranged gone found in
          let none = ap (λ (b : Bool). count_if (not b)) some in
          omega (arith, none, changed))

  -- how many objects there are with several more
  pub stored_count : (there : ℕ → Bool) (objects arranged : List registry.Object) (elements : List Element) → IsArranged object_order objects arranged
      → ((tag : ℕ) → list_any (is_object_of owner tag) objects ≡ there tag) → length objects + new_tags there elements ≡ length (with_objects owner objects elements)
  stored_count there objects arranged [] is same = omega arith
  stored_count there objects arranged (element ∷ elements) is same =
      let one = one_stored owner objects arranged element is in
      let behind = stored_count (with_tag there element.tag) (with_object owner objects element) one.after elements one.is (has_with there objects element same) in
      let first = first_new there element elements in
      let longer = length_with (there element.tag) objects arranged element is (same element.tag) in
      omega (arith, behind, first, longer)
