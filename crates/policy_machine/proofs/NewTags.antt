-- How many more data objects elements make.
use Rattle.std.proofs.Common.{◌≡◌, inl, inr, ℕ, ◌+◌, Bool, true, false, cond, ◌||◌, ◌&&◌, ◌==◌, List, [], ◌∷◌, ap, sym, ◌∙◌, arith}
use Rattle.std.specs.Prelude.{not}
use Rattle.std.proofs.lemmas.Bool.{cases_Bool, cases_eq, eq-eqb, ne_eqb}
use Rattle.policy_machine.specs.Prelude.{Element, has_tag_in, new_tags}

abbrev pub count_if : Bool → ℕ
count_if b = cond b 1 0

module _ (there : ℕ → Bool) where
  -- the first of the elements counts, or does not
  pub counted_new : (behind next : List Element) (element : Element) (count total : ℕ) → behind ≡ element ∷ next → count + new_tags there behind ≡ total
      → there element.tag ≡ false → has_tag_in next element.tag ≡ false → count + 1 + new_tags there next ≡ total
  counted_new behind next element count total is so_far old again =
      let first : new_tags there behind ≡ 1 + new_tags there next =
      ap (new_tags there) is ∙ (λ i. count_if (not (old i) && not (again i)) + new_tags there next) in
      omega (arith, first, so_far)

  pub counted_old : (behind next : List Element) (element : Element) (count total : ℕ) → behind ≡ element ∷ next → count + new_tags there behind ≡ total
      → there element.tag ≡ true → count + new_tags there next ≡ total
  counted_old behind next element count total is so_far old =
      let first : new_tags there behind ≡ 0 + new_tags there next =
      ap (new_tags there) is ∙ (λ i. count_if (not (old i) && not (has_tag_in next element.tag)) + new_tags there next) in
      omega (arith, first, so_far)

  pub counted_again : (behind next : List Element) (element : Element) (count total : ℕ) → behind ≡ element ∷ next → count + new_tags there behind ≡ total
      → has_tag_in next element.tag ≡ true → count + new_tags there next ≡ total
  counted_again behind next element count total is so_far again = elim (cases_Bool (there element.tag)) [
    | inl old ↦ counted_old behind next element count total is so_far old
    | inr new ↦
        (let first : new_tags there behind ≡ 0 + new_tags there next =
        ap (new_tags there) is ∙ (λ i. count_if (not (new i) && not (again i)) + new_tags there next) in
        omega (arith, first, so_far))
  ]

  -- of the elements, those with a tag that is there now count no more
  abbrev pub with_tag : ℕ → ℕ → Bool
  with_tag tag other = tag == other || there other

  one_less : (old again : Bool) (n m : ℕ) → n ≡ m + count_if (not old && again) → count_if (not old && not again) + n ≡ m + count_if (not old && true)
  one_less true again n m is = omega (arith, is)
  one_less false true n m is = omega (arith, is)
  one_less false false n m is = omega (arith, is)

  never : (old : Bool) → 0 ≡ 0 + count_if (not old && false)
  never true = omega arith
  never false = omega arith

  pub fewer_new : (tag : ℕ) (elements : List Element) → new_tags there elements ≡ new_tags (with_tag tag) elements + count_if (not (there tag) && has_tag_in elements tag)
  fewer_new tag [] = never (there tag)
  fewer_new tag (element ∷ elements) = elim (cases_eq element.tag tag) [
    | inl same ↦
        (let this : new_tags there (element ∷ elements) ≡ count_if (not (there tag) && not (has_tag_in elements tag)) + new_tags there elements =
        ap (λ (t : ℕ). count_if (not (there t) && not (has_tag_in elements t)) + new_tags there elements) same in
        let that : new_tags (with_tag tag) (element ∷ elements) ≡ 0 + new_tags (with_tag tag) elements =
        ap (λ (b : Bool). count_if (not (b || there element.tag) && not (has_tag_in elements element.tag)) + new_tags (with_tag tag) elements) (eq-eqb tag element.tag (sym same)) in
        let among : count_if (not (there tag) && has_tag_in (element ∷ elements) tag) ≡ count_if (not (there tag) && true) =
        ap (λ (b : Bool). count_if (not (there tag) && (b || has_tag_in elements tag))) (eq-eqb element.tag tag same) in
        let rest = one_less (there tag) (has_tag_in elements tag) (new_tags there elements) (new_tags (with_tag tag) elements) (fewer_new tag elements) in
        omega (arith, this, that, among, rest))
    | inr other ↦
        (let that : new_tags (with_tag tag) (element ∷ elements) ≡ count_if (not (there element.tag) && not (has_tag_in elements element.tag)) + new_tags (with_tag tag) elements =
        ap (λ (b : Bool). count_if (not (b || there element.tag) && not (has_tag_in elements element.tag)) + new_tags (with_tag tag) elements) (ne_eqb tag element.tag (λ same. other (sym same))) in
        let among : count_if (not (there tag) && has_tag_in (element ∷ elements) tag) ≡ count_if (not (there tag) && has_tag_in elements tag) =
        ap (λ (b : Bool). count_if (not (there tag) && (b || has_tag_in elements tag))) (ne_eqb element.tag tag other) in
        let rest = fewer_new tag elements in
        omega (arith, that, among, rest))
  ]

  split : (old again : Bool) → count_if (not old) ≡ count_if (not old && not again) + count_if (not old && again)
  split true again = omega arith
  split false true = omega arith
  split false false = omega arith

  -- a first element makes one more where its tag is not there yet, and then its tag is there
  pub first_new : (element : Element) (elements : List Element)
      → new_tags there (element ∷ elements) ≡ count_if (not (there element.tag)) + new_tags (with_tag element.tag) elements
  first_new element elements =
      let less = fewer_new element.tag elements in
      let parts = split (there element.tag) (has_tag_in elements element.tag) in
      omega (arith, less, parts)
