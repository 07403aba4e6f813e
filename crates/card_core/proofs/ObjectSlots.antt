-- The slots of data objects, before and after one is put.
use Rattle.std.proofs.Common.{◌≡◌, inl, inr, ℕ, suc, ◌+◌, ◌<◌, ◌≤◌, Bool, true, false, ◌||◌, ◌&&◌, ◌==◌, List, [], ◌∷◌, length, Option, None, Some, refl, ap, sym, subst, ◌∙◌, arith}
use Rattle.std.specs.Prelude.{not, slice_set}
use Rattle.std.specs.List.{cons_option, list_any}
use Rattle.std.specs.List.Sorted.{IsPermutation}
use Rattle.std.proofs.lemmas.Bool.{and_parts, cases_eq, eq-eqb, eqb-true, false_from_ne_true, ne_eqb}
use Rattle.std.proofs.lemmas.List.{get_or-set_same, length-set}
use Rattle.std.proofs.lemmas.List.Folds.{list_any_at}
use Rattle.std.proofs.lemmas.List.Sorted.{length_permutation, list_any-IsPermutation}
use Rattle.card_core.specs.Prelude.{Element, IsSlotFor, NoneFits, has_object_in, has_tag_in, is_tagged_in, new_tags, object_with, thing_in, things_in}
use Rattle.card_types.proofs.ChangedSlot.{set_shown}
use Rattle.card_types.specs.declared.limits.TheConstants.{OBJECTS}
use Rattle.card_types.specs.declared.tables.Object.{Object}
use Rattle.key_rules.proofs.Stays.{any_used}
use Rattle.policy_machine.proofs.NewTags.{count_if, first_new, with_tag}

-- where no slot has one, there is none
pub none_tagged : (owner tag : ℕ) (slots : List (Option Object)) → NoneFits (λ object. is_tagged_in owner tag (Some object)) slots → has_object_in slots owner tag ≡ false
none_tagged owner tag [] none = refl
none_tagged owner tag (None ∷ slots) none = none_tagged owner tag slots (λ slot object at. none (suc slot) object at)
none_tagged owner tag (Some first ∷ slots) none =
    (λ i. false_from_ne_true (is_tagged_in owner tag (Some first)) (none 0 first refl) i || none_tagged owner tag slots (λ slot object at. none (suc slot) object at) i)

module _ (slots : List (Option Object)) (owner tag : ℕ) (value : List ℕ) (slot : ℕ) (all : length slots ≡ OBJECTS) (is : IsSlotFor slots owner tag slot) where
  abbrev after : List (Option Object)
  after = slice_set slots slot (Some (object_with owner tag value))

  within : slot < length slots
  within = (let low = is.within in omega (arith, low, all))

  moved : IsPermutation (object_with owner tag value ∷ things_in slots) (cons_option (thing_in slots slot) (things_in after))
  moved = set_shown (λ (o : Option Object). o) slots slot (Some (object_with owner tag value)) within

  -- the slot has such an object, or the domain has none
  pub found_in : is_tagged_in owner tag (thing_in slots slot) ≡ true → has_object_in slots owner tag ≡ true
  found_in tagged = list_any_at (is_tagged_in owner tag) slots slot None within tagged

  -- the object's own tag is there then
  own_tag : has_object_in after owner tag ≡ true
  own_tag =
      let long = length-set slots slot (Some (object_with owner tag value)) in
      let here = get_or-set_same slots slot (Some (object_with owner tag value)) None within in
      let fits : is_tagged_in owner tag (Some (object_with owner tag value)) ≡ true = (λ i. eq-eqb owner owner refl i && eq-eqb tag tag refl i) in
      list_any_at (is_tagged_in owner tag) after slot None (omega (arith, long, within)) (ap (is_tagged_in owner tag) here ∙ fits)

  other_tag : (other : ℕ) → (tag ≡ other → ⊥) → has_object_in after owner other ≡ has_object_in slots owner other
  other_tag other differs =
      let P = λ (thing : Object). is_tagged_in owner other (Some thing) in
      let both = list_any-IsPermutation P (object_with owner tag value ∷ things_in slots) (cons_option (thing_in slots slot) (things_in after)) moved in
      let first : P (object_with owner tag value) ≡ false = by_tag owner tag (ne_eqb tag other differs) in
      let before : list_any P (object_with owner tag value ∷ things_in slots) ≡ list_any P (things_in slots) = ap (λ (b : Bool). b || list_any P (things_in slots)) first in
      any_used (is_tagged_in owner other) (λ thing. is_tagged_in owner other (Some thing)) refl (λ thing. refl) after ∙ sym (behind (thing_in slots slot) refl) ∙ sym both ∙ before ∙ sym (any_used (is_tagged_in owner other) (λ thing. is_tagged_in owner other (Some thing)) refl (λ thing. refl) slots)
    where
      by_tag : (o t : ℕ) → (t == other) ≡ false → (o == owner && t == other) ≡ false
      by_tag o t is_other = ap (λ (b : Bool). o == owner && b) is_other ∙ none (o == owner)
        where
          none : (b : Bool) → (b && false) ≡ false
          none true = refl
          none false = refl

      behind : (o : Option Object) → thing_in slots slot ≡ o
          → list_any (λ thing. is_tagged_in owner other (Some thing)) (cons_option o (things_in after)) ≡ list_any (λ thing. is_tagged_in owner other (Some thing)) (things_in after)
      behind None at = refl
      behind (Some gone) at = elim is.takes [
        | inl tagged ↦
            (let here : is_tagged_in owner tag (Some gone) ≡ true = ap (is_tagged_in owner tag) (sym at) ∙ tagged in
            let parts = and_parts (gone.owner == owner) (gone.tag == tag) here in
            let tags = eqb-true gone.tag tag parts.1 in
            let out = by_tag gone.owner gone.tag (ne_eqb gone.tag other (λ same. differs (sym tags ∙ same))) in
            ap (λ (b : Bool). b || list_any (λ thing. is_tagged_in owner other (Some thing)) (things_in after)) out)
        | inr free ↦ (let clash = sym at ∙ free.0 in cc)
      ]

  pub tags_after : (other : ℕ) → has_object_in after owner other ≡ with_tag (has_object_in slots owner) tag other
  tags_after other = elim (cases_eq tag other) [
    | inl same ↦ subst (λ (t : ℕ). has_object_in after owner t ≡ with_tag (has_object_in slots owner) tag t) same
        (own_tag ∙ sym (ap (λ (b : Bool). b || has_object_in slots owner tag) (eq-eqb tag tag refl)))
    | inr differs ↦ other_tag other differs ∙ sym (ap (λ (b : Bool). b || has_object_in slots owner other) (ne_eqb tag other differs))
  ]

  -- one more slot is used where the domain had no such object
  pub number_after : length (things_in after) ≡ length (things_in slots) + count_if (not (has_object_in slots owner tag))
  number_after =
      let long = length_permutation (object_with owner tag value ∷ things_in slots) (cons_option (thing_in slots slot) (things_in after)) moved in
      by (thing_in slots slot) refl long
    where
      by : (o : Option Object) → thing_in slots slot ≡ o → length (cons_option o (things_in after)) ≡ length (object_with owner tag value ∷ things_in slots)
          → length (things_in after) ≡ length (things_in slots) + count_if (not (has_object_in slots owner tag))
      by None at long = elim is.takes [
        | inl tagged ↦ (let clash = ap (is_tagged_in owner tag) (sym at) ∙ tagged in cc)
        | inr free ↦ (let one = ap (λ (b : Bool). count_if (not b)) free.1 in omega (arith, one, long))
      ]
      by (Some gone) at long = elim is.takes [
        | inl tagged ↦ (let none = ap (λ (b : Bool). count_if (not b)) (found_in tagged) in omega (arith, none, long))
        | inr free ↦ (let clash = sym at ∙ free.0 in cc)
      ]

-- tags that are there alike make as many new
tags_alike : (there also : ℕ → Bool) → ((tag : ℕ) → also tag ≡ there tag) → (elements : List Element) → new_tags also elements ≡ new_tags there elements
tags_alike there also same [] = refl
tags_alike there also same (element ∷ elements) =
    (λ i. count_if (not (same element.tag i) && not (has_tag_in elements element.tag)) + tags_alike there also same elements i)

-- the room for what is still to be put is the same after the first is put
pub room_after : (slots : List (Option Object)) (owner : ℕ) (element : Element) (elements : List Element) (slot : ℕ) → length slots ≡ OBJECTS
    → IsSlotFor slots owner element.tag slot → length (things_in slots) + new_tags (has_object_in slots owner) (element ∷ elements) ≤ OBJECTS
    → length (things_in (slice_set slots slot (Some (object_with owner element.tag element.value))))
    + new_tags (has_object_in (slice_set slots slot (Some (object_with owner element.tag element.value))) owner) elements ≤ OBJECTS
room_after slots owner element elements slot all is room =
    let after = slice_set slots slot (Some (object_with owner element.tag element.value)) in
    let number = number_after slots owner element.tag element.value slot all is in
    let tags = tags_alike (with_tag (has_object_in slots owner) element.tag) (has_object_in after owner) (tags_after slots owner element.tag element.value slot all is) elements in
    let first = first_new (has_object_in slots owner) element elements in
    omega (arith, number, tags, first, room)

-- there is room for a first element whose tag is new
pub room_first : (slots : List (Option Object)) (owner : ℕ) (element : Element) (elements : List Element)
    → length (things_in slots) + new_tags (has_object_in slots owner) (element ∷ elements) ≤ OBJECTS
    → has_object_in slots owner element.tag ≡ false → length (things_in slots) < OBJECTS
room_first slots owner element elements room new =
    let first = first_new (has_object_in slots owner) element elements in
    let one = ap (λ (b : Bool). count_if (not b)) new in
    omega (arith, first, one, room)
