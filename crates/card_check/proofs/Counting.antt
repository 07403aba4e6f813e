-- How many things there are in slots and in lists.
use Rattle.std.proofs.Common.{◌≡◌, inl, inr, ℕ, zero, suc, ◌-◌, ◌*◌, ◌≤◌, Bool, true, false, cond, eqb, List, [], ◌∷◌, length, Option, None, Some, refl, sym, subst, length-append, arith}
use Rattle.std.specs.Prelude.{All, Contains, map, nat_eq}
use Rattle.std.specs.List.{AllByRecursion, IsDistinct, concat, count_by, list_any}
use Rattle.std.proofs.lemmas.Bool.{eq-eqb, eqb-true, ne_eqb, or_cases}
use Rattle.std.proofs.lemmas.List.{length-map}
use Rattle.std.proofs.lemmas.List.Elements.{All-contains, All-tail}
use Rattle.std.proofs.lemmas.List.Sums.{sum_by-cons}
use Rattle.std.proofs.lemmas.Map.Steps.{length-le_from_distinct_below}
use Rattle.card_types.specs.Represents.{things_in, thing_in}
use Rattle.card_types.specs.declared.limits.TheConstants.{LOAD_PAGES}
use Rattle.card_types.proofs.Members.{contains_first, contains_later, mapped}
use Rattle.card_check.specs.IsCard.{HasPages}
use Rattle.page_journal.specs.Pages.{IsLoadPage}
use Rattle.card_check.specs.LoadPages.{AreLoadPages}
use Rattle.page_journal.proofs.PageKinds.{place_among}

module _ {T : Type 0} where
  pub used_at_most : (slots : List (Option T)) → length (things_in slots) ≤ length slots
  used_at_most [] = omega arith
  used_at_most (None ∷ slots) = (let rest = used_at_most slots in omega arith)
  used_at_most (Some thing ∷ slots) = (let rest = used_at_most slots in omega arith)

module _ {T X : Type 0} (view : T → X) (p : X → Bool) (q : Option T → Bool) where
  one_or_none : (b : Bool) → cond b 1 0 ≤ 1
  one_or_none true = omega arith
  one_or_none false = omega arith

  at_most : (a b : Bool) → (a ≡ true → b ≡ true) → cond a 1 0 ≤ cond b 1 0
  at_most true true follows = omega arith
  at_most true false follows = (let clash = follows refl in cc)
  at_most false b follows = omega arith

  -- no more are counted by views than by slots where each that counts does so there too
  pub count_of_views : (slots : List (Option T)) → ((slot : ℕ) (thing : T) → thing_in slots slot ≡ Some thing → p (view thing) ≡ true → q (Some thing) ≡ true)
      → count_by p (map view (things_in slots)) ≤ count_by q slots
  count_of_views [] follows = omega arith
  count_of_views (None ∷ slots) follows =
      let rest = count_of_views slots (λ slot thing at. follows (suc slot) thing at) in
      omega (arith, sum_by-cons (λ (o : Option T). cond (q o) 1 0) None slots)
  count_of_views (Some thing ∷ slots) follows =
      let rest = count_of_views slots (λ slot other at. follows (suc slot) other at) in
      let first = at_most (p (view thing)) (q (Some thing)) (follows zero thing refl) in
      omega (arith, sum_by-cons (λ (o : Option T). cond (q o) 1 0) (Some thing) slots, sum_by-cons (λ (x : X). cond (p x) 1 0) (view thing) (map view (things_in slots)))

  -- no more are counted by slots than by views where each slot that counts does so there too
  pub count_of_slots : (slots : List (Option T)) → q None ≡ false → ((slot : ℕ) (thing : T) → thing_in slots slot ≡ Some thing → q (Some thing) ≡ true → p (view thing) ≡ true)
      → count_by q slots ≤ count_by p (map view (things_in slots))
  count_of_slots [] free follows = omega arith
  count_of_slots (None ∷ slots) free follows =
      let rest = count_of_slots slots free (λ slot thing at. follows (suc slot) thing at) in
      let none : ◌≡◌ {A = ℕ} (cond (q None) 1 0) 0 = rw free refl in
      omega (arith, sum_by-cons (λ (o : Option T). cond (q o) 1 0) None slots)
  count_of_slots (Some thing ∷ slots) free follows =
      let rest = count_of_slots slots free (λ slot other at. follows (suc slot) other at) in
      let first = at_most (q (Some thing)) (p (view thing)) (follows zero thing refl) in
      omega (arith, sum_by-cons (λ (o : Option T). cond (q o) 1 0) (Some thing) slots, sum_by-cons (λ (x : X). cond (p x) 1 0) (view thing) (map view (things_in slots)))

-- load pages that are all different are at most as many as there are
among : (q : ℕ) (xs : List ℕ) → list_any (eqb q) xs ≡ true → Contains xs q
among q [] is = cc
among q (x ∷ xs) is = elim (or_cases (eqb q x) (list_any (eqb q) xs) is) [
  | inl same ↦ subst (Contains (x ∷ xs)) (sym (eqb-true q x same)) (contains_first x xs)
  | inr later ↦ contains_later x xs q (among q xs later)
]

places_differ : (x : ℕ) (pages : List ℕ) → IsLoadPage x → All IsLoadPage pages → AllByRecursion (λ y. nat_eq x y ≡ false) pages
    → AllByRecursion (λ y. nat_eq (place_among x) y ≡ false) (map place_among pages)
places_differ x [] is all differ = tt
places_differ x (y ∷ pages) is all differ =
    let other : IsLoadPage y = All-contains IsLoadPage (y ∷ pages) y all (contains_first y pages) in (
      ne_eqb (place_among x) (place_among y) (λ same.
          (let alike : x ≡ y = omega (arith, is.0, other.0, same) in
          let itself : nat_eq x y ≡ true = eq-eqb x y alike in
          let unlike = differ.0 in cc)),
      places_differ x pages is (All-tail IsLoadPage y pages all) differ.1,
    )

distinct_places : (pages : List ℕ) → All IsLoadPage pages → IsDistinct nat_eq pages → IsDistinct nat_eq (map place_among pages)
unfolding IsDistinct
distinct_places [] all apart = tt
distinct_places (x ∷ pages) all apart = (
  places_differ x pages (All-contains IsLoadPage (x ∷ pages) x all (contains_first x pages)) (All-tail IsLoadPage x pages all) apart.0,
  distinct_places pages (All-tail IsLoadPage x pages all) apart.1,
)

pub few_load_pages : (pages : List ℕ) → AreLoadPages pages → length pages ≤ LOAD_PAGES
few_load_pages pages are =
    let places = map place_among pages in
    let few : length places ≤ LOAD_PAGES = length-le_from_distinct_below places LOAD_PAGES (distinct_places pages are.each are.apart) (λ q found.
    (let from = mapped place_among pages q (among q places found) in
    let is : IsLoadPage from.0 = All-contains IsLoadPage pages from.0 are.each from.1 in
    omega (arith, is.0, is.1, from.2))) in
    omega (arith, few, length-map pages place_among)

-- the bytes of pages of 256 bytes each
pub length_of_pages : (page : ℕ → List ℕ) → HasPages page → (numbers : List ℕ) → length (concat (map page numbers)) ≡ 256 * length numbers
length_of_pages page whole [] = refl
length_of_pages page whole (n ∷ numbers) =
    let rest = length_of_pages page whole numbers in
    omega (arith, length-append (page n) (concat (map page numbers)), whole n)
