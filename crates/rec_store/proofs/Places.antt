-- Slots of one size in a page.
use Rattle.std.proofs.Common.{◌≡◌, ◌≢◌, inl, inr, ℕ, ◌+◌, ◌-◌, ◌*◌, ◌/◌, ◌%◌, ◌<◌, ◌≤◌, List, ◌++◌, length, take, drop, get_or, ap, subst, ◌∙◌, sym, arith}
use Rattle.std.specs.Prelude.{slice_range}
use Rattle.std.proofs.Math.Nat.{div-mul-le_self, mod-eq-sub-div-mul}
use Rattle.std.proofs.lemmas.Bool.{cases_lt}
use Rattle.std.proofs.lemmas.Nat.{div-mul-add, mod-mul-add}
use Rattle.std.proofs.lemmas.Grind.{same_number_lists, common_steps}
use Rattle.rec_store.specs.Places.{slot_at, slot_from}
use Rattle.page_journal.specs.declared.pages.TheConstants.{STORE_PAGES}
use Rattle.page_journal.specs.Pages.{IsStorePage}
use Rattle.page_journal.proofs.PageKinds.{AreWithinStore}

-- one slot ends before the next begins
pub before : (i j size : ℕ) → i < j → i * size + size ≤ j * size
before i j size lt = grind arith

-- a page with other bytes at a place
abbrev pub with_part : ℕ → ℕ → List ℕ → List ℕ → List ℕ
with_part at count page part = take at page ++ (part ++ drop count (drop at page))

part_below : (at count : ℕ) (page part : List ℕ) (i : ℕ) → at + count ≤ length page → length part ≡ count → i < at → get_or (with_part at count page part) i 0 ≡ get_or page i 0
part_below at count page part i room same lt = grind (arith, common_steps)

part_above : (at count : ℕ) (page part : List ℕ) (i : ℕ) → at + count ≤ length page → length part ≡ count → at + count ≤ i → get_or (with_part at count page part) i 0 ≡ get_or page i 0
part_above at count page part i room same le = grind (arith, common_steps)

part_length : (at count : ℕ) (page part : List ℕ) → at + count ≤ length page → length part ≡ count → length (with_part at count page part) ≡ length page
part_length at count page part room same = grind (arith, common_steps)

-- a range is what its bytes are
pub same_range : (old new : List ℕ) (from count : ℕ) → length new ≡ length old → ((i : ℕ) → i < count → get_or new (from + i) 0 ≡ get_or old (from + i) 0) → slice_range new from (from + count) ≡ slice_range old from (from + count)
same_range old new from count same each =
    same_number_lists (slice_range new from (from + count)) (slice_range old from (from + count)) (grind (arith, common_steps)) (λ k lt. grind (arith, common_steps, each k))

pub slot_apart : (page part : List ℕ) (size place other : ℕ) → place * size + size ≤ length page → length part ≡ size → other ≢ place → slot_at (with_part (place * size) size page part) size other ≡ slot_at page size other
slot_apart page part size place other room same apart =
    same_range page (with_part (place * size) size page part) (other * size) size (part_length (place * size) size page part room same)
    (λ i lt. elim (cases_lt other place) [
      | inl less ↦ part_below (place * size) size page part (other * size + i) room same (omega (arith, lt, before other place size less))
      | inr more ↦ part_above (place * size) size page part (other * size + i) room same (omega (arith, before place other size (omega (arith, apart, more))))
    ])

at_most : (i j size : ℕ) → i ≤ j → i * size ≤ j * size
at_most i j size le = grind arith

-- the page of a slot has its other slots too, where pages are whole
pub whole_page : (slot all each : ℕ) → 0 < each → slot < all → all % each ≡ 0 → slot / each * each + each ≤ all
whole_page slot all each some lt whole = elim (cases_lt (slot / each) (all / each)) [
  | inl less ↦ omega (arith, before (slot / each) (all / each) each less, div-mul-le_self all each, mod-eq-sub-div-mul all each, whole)
  | inr more ↦ absurd (omega (arith, at_most (all / each) (slot / each) each more, div-mul-le_self slot each, lt, whole, mod-eq-sub-div-mul all each))
]

-- the page of a slot is one of the store pages
pub page_within : (first page all each : ℕ) → AreWithinStore first all each → page * each + each ≤ all → 0 < each → IsStorePage (first + page)
page_within first page all each room whole some = elim (cases_lt (first + page) STORE_PAGES) [
  | inl less ↦ less
  | inr more ↦ absurd (omega (arith, at_most STORE_PAGES (first + page) each more, distributed, room, whole, some))
]
  where
    distributed : (first + page) * each ≡ first * each + page * each
    distributed = grind arith

pub some_each : (size : ℕ) → 256 / size * size ≡ 256 → 0 < 256 / size
some_each size whole = elim (cases_lt 0 (256 / size)) [
  | inl some ↦ some
  | inr none ↦ absurd (omega (arith, at_most (256 / size) 0 size none, whole))
]

-- the page of a slot is one of them
pub staged_page : (first size all slot : ℕ) → 256 / size * size ≡ 256 → slot < all → all % (256 / size) ≡ 0 → AreWithinStore first all (256 / size)
    → (read from : ℕ) → read ≡ size → from ≡ slot → IsStorePage (first + from / (256 / read))
staged_page first size all slot whole lt of_pages room read from same is =
    let some = some_each size whole in
    subst (λ n. IsStorePage (first + n / (256 / read))) (sym is) (subst (λ n. IsStorePage (first + slot / (256 / n))) (sym same)
    (page_within first (slot / (256 / size)) all (256 / size) room (whole_page slot all (256 / size) some lt of_pages) some))

-- what is so of all slots before a page, and of those in it
pub page_more : (each number : ℕ) (P : ℕ → Type 0) → ((slot : ℕ) → slot < number * each → P slot) → ((place : ℕ) → place < each → P (number * each + place)) → (slot : ℕ) → slot < (number + 1) * each → P slot
page_more each number P before_it in_it slot lt = elim (cases_lt slot (number * each)) [
  | inl less ↦ before_it slot less
  | inr more ↦
      (let row : (number + 1) * each ≡ number * each + each = grind arith in
      let here : number * each + (slot - number * each) ≡ slot = omega (arith, more) in
      subst P here (in_it (slot - number * each) (omega (arith, lt, row, more))))
]

-- where a slot of a page is
pub slot_in_page : (store : ℕ → List ℕ) (first size number place : ℕ) → place < 256 / size → slot_from store first size (number * (256 / size) + place) ≡ slot_at (store (first + number)) size place
slot_in_page store first size number place lt =
    ap (λ page. slot_at (store (first + page)) size ((number * (256 / size) + place) % (256 / size))) (div-mul-add number (256 / size) place lt)
    ∙ ap (slot_at (store (first + number)) size) (mod-mul-add number (256 / size) place lt)

pub all_pages : (all each : ℕ) → all % each ≡ 0 → all / each * each ≡ all
all_pages all each whole = omega (arith, whole, mod-eq-sub-div-mul all each, div-mul-le_self all each)

-- a page with all its slots is one of those that there are
pub page_of_all : (size read number all : ℕ) → read ≡ size → all % (256 / size) ≡ 0 → number < all / (256 / read) → number * (256 / size) + 256 / size ≤ all
page_of_all size read number all same even lt =
    let each : all / (256 / read) ≡ all / (256 / size) = ap (λ n. all / (256 / n)) same in
    omega (arith, before number (all / (256 / size)) (256 / size) (omega (arith, lt, each)), all_pages all (256 / size) even)

-- a slot before a page is in an earlier one
pub earlier_page : (slot number each : ℕ) → slot < number * each → slot / each < number
earlier_page slot number each lt = elim (cases_lt (slot / each) number) [
  | inl less ↦ less
  | inr more ↦ absurd (omega (arith, at_most number (slot / each) each more, div-mul-le_self slot each, lt))
]
