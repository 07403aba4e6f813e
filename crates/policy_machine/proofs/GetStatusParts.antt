-- A listing is one list, and has one first part.
use Rattle.std.proofs.Common.{◌≡◌, ℕ, ◌+◌, ◌<◌, ◌≤◌, List, [], ◌∷◌, ◌++◌, length, refl, ap, sym, subst, ◌∙◌, arith, length-append}
use Rattle.std.specs.Cmp.{IsTotalOrder}
use Rattle.std.specs.List.Sorted.{IsStrictlySortedBy}
use Rattle.std.specs.Ordering.{on}
use Rattle.std.specs.declared.cmp.Ordering.{Ordering}
use Rattle.std.proofs.lemmas.Cmp.{nat_list_cmp_total, on_total}
use Rattle.bertlv.proofs.SpellingLemmas.{one_spelling, one_spelling_each}
use Rattle.policy_machine.specs.Prelude.{Admitted, AreTemplates, IsListing, IsTemplate, Registry, Spelling, Thing, aid_in, aid_order, part_limit, status_parts}
use Rattle.card_types.proofs.AtMostOnce.{once_from_sorted, same_members}
use Rattle.card_types.proofs.ChangeExists.{one_order}
use Rattle.card_types.proofs.LeastOfList.{sorted_by_name}

-- two listings have the same things in the same order
pub one_listing : (admitted : Admitted) (xs ys : List Thing) → IsListing admitted xs → IsListing admitted ys → xs ≡ ys
one_listing admitted xs ys one other =
    let order : Thing → Thing → Ordering = on aid_in aid_order in
    let total : IsTotalOrder (on aid_in aid_order) = on_total aid_in nat_list_cmp_total in
    let first : IsStrictlySortedBy (on aid_in aid_order) xs = sorted_by_name aid_order aid_in xs one.ascending in
    let second : IsStrictlySortedBy (on aid_in aid_order) ys = sorted_by_name aid_order aid_in ys other.ascending in
    one_order (on aid_in aid_order) total xs ys first second
    (same_members (on aid_in aid_order) total xs ys (once_from_sorted (on aid_in aid_order) total xs first) (once_from_sorted (on aid_in aid_order) total ys second)
    (λ z there. (other.all z).1 ((one.all z).0 there)) (λ z there. (one.all z).1 ((other.all z).0 there)))

module _ (registry : Registry) (p1 : ℕ) where
  one_template : (thing : Thing) (a b : List ℕ) → IsTemplate registry p1 thing a → IsTemplate registry p1 thing b → a ≡ b
  one_template thing a b one other =
      let values = one_spelling_each (status_parts registry p1 thing) one.value other.value one.parts other.parts in
      one_spelling 0xE3 other.value a b (subst (λ (v : List ℕ). Spelling 0xE3 v a) values one.whole) other.whole

  pub one_templates : (things : List Thing) (a b : List ℕ) → AreTemplates registry p1 things a → AreTemplates registry p1 things b → a ≡ b
  one_templates [] a b one other = one ∙ sym other
  one_templates (thing ∷ things) a b (first, rest, is, are, joined) (front, more, too, also, split) =
      joined ∙ ap (λ z. z ++ rest) (one_template thing first front is too) ∙ ap (λ z. front ++ z) (one_templates things rest more are also) ∙ sym split

  -- after so many bytes the next of the things that are left does not fit
  abbrev pub IsFullAfter : ℕ → List Thing → List ℕ → Type 0
  IsFullAfter number [] bytes = Unit {0}
  IsFullAfter number (next ∷ left) bytes = (template : List ℕ) × IsTemplate registry p1 next template × (part_limit < number + length bytes + length template)

  -- what fits in whole has no template that does not
  too_long : (number : ℕ) (left : List Thing) (thing : Thing) (more rest bytes : List ℕ) (things : List Thing)
      → left ≡ thing ∷ things → IsFullAfter number left [] → IsTemplate registry p1 thing more → bytes ≡ more ++ rest → number + length bytes ≤ part_limit → ⊥
  too_long number [] thing more rest bytes things is full template joined fits = cc
  too_long number (next ∷ left) thing more rest bytes things is (template, spelled, above) here joined fits =
      let alike : next ≡ thing = cc in
      let same = one_template thing template more (subst (λ (t : Thing). IsTemplate registry p1 t template) alike spelled) here in
      omega (arith, above, fits, ap length same, ap length joined, length-append more rest)

  full_rest : (number : ℕ) (left : List Thing) (bytes first rest : List ℕ) → bytes ≡ first ++ rest → IsFullAfter number left bytes
      → IsFullAfter (number + length first) left rest
  full_rest number [] bytes first rest joined full = tt
  full_rest number (next ∷ left) bytes first rest joined (template, is, above) =
      (template, is, omega (arith, above, ap length joined, length-append first rest))

  -- two first parts of one list, as long as they can be, are one
  pub one_part : (number : ℕ) (shown left others rest : List Thing) (a b : List ℕ) → shown ++ left ≡ others ++ rest
      → AreTemplates registry p1 shown a → AreTemplates registry p1 others b → number + length a ≤ part_limit → number + length b ≤ part_limit
      → IsFullAfter number left a → IsFullAfter number rest b → (shown ≡ others) × (left ≡ rest)
  one_part number [] left [] rest a b same one other fits fit full end = (refl, same)
  one_part number [] left (thing ∷ others) rest a b same one (first, more, is, are, joined) fits fit full end =
      absurd (too_long number left thing first more b (others ++ rest) same (subst (IsFullAfter number left) one full) is joined fit)
  one_part number (thing ∷ shown) left [] rest a b same (first, more, is, are, joined) other fits fit full end =
      absurd (too_long number rest thing first more a (shown ++ left) (sym same) (subst (IsFullAfter number rest) other end) is joined fits)
  one_part number (thing ∷ shown) left (another ∷ others) rest a b same (first, more, is, are, joined) (front, behind, too, also, split) fits fit full end =
      let alike : another ≡ thing = cc in
      let later : shown ++ left ≡ others ++ rest = cc in
      let size = ap length (one_template thing front first (subst (λ (t : Thing). IsTemplate registry p1 t front) alike too) is) in
      let parts = one_part (number + length first) shown left others rest more behind later are also
      (omega (arith, fits, ap length joined, length-append first more))
      (omega (arith, fit, ap length split, length-append front behind, size))
      (full_rest number left a first more joined full)
      (subst (λ (n : ℕ). IsFullAfter (number + n) rest behind) size (full_rest number rest b front behind split end)) in
      ((λ i. thing_same (sym alike) parts.0 i), parts.1)
    where
      thing_same : {x y : Thing} {xs ys : List Thing} → x ≡ y → xs ≡ ys → x ∷ xs ≡ y ∷ ys
      thing_same first later = (λ i. first i ∷ later i)
