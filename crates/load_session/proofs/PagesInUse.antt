-- Which load pages are in use, and how many.
use Rattle.std.proofs.Common.{◌≡◌, inl, inr, ℕ, ◌+◌, ◌<◌, ◌≤◌, List, [], ◌∷◌, ◌++◌, length, take, get_or, Option, None, Some, ap, sym, subst, ◌∙◌, length-append, arith}
use Rattle.std.specs.Prelude.{Contains, map}
use Rattle.std.specs.List.{concat, sum_by}
use Rattle.std.proofs.lemmas.List.{append-nil, length-map, length-take, take_more}
use Rattle.std.proofs.lemmas.List.Elements.{Contains-append_left, Contains-append_right, filter_map-append}
use Rattle.std.proofs.lemmas.List.Sums.{sum_by-append, sum_by-cons}
use Rattle.std.proofs.lemmas.Bool.{cases_lt}
use Rattle.std.proofs.lemmas.Cmp.{nat_eq_equiv}
use Rattle.std.proofs.lemmas.Map.Steps.{le-length_from_below}
use Rattle.std.proofs.lemmas.Map.Views.{list_any-from_Contains}
use Rattle.load_session.specs.Prelude.{IsPageInUse, pages_in, pages_named, pages_of, things_in}
use Rattle.card_types.proofs.Members.{contains_cases, contains_map}
use Rattle.card_types.specs.declared.limits.TheConstants.{LOAD_PAGES}
use Rattle.card_types.specs.declared.tables.LoadFile.{LoadFile}
use Rattle.card_types.specs.declared.tables.Tables.{Tables}
use Rattle.page_journal.proofs.PageKinds.{IsOnDevice, IsPastJournal, load_page_at, place_among}

-- one slot more
module _ {T : Type 0} (slots : List (Option T)) (i : ℕ) (within : i < length slots) where
  pub used_next : (thing : T) → get_or slots i None ≡ Some thing → things_in (take (i + 1) slots) ≡ things_in (take i slots) ++ thing ∷ []
  used_next thing at =
      ap things_in (take_more slots i None within ∙ ap (λ (slot : Option T). take i slots ++ slot ∷ []) at) ∙ filter_map-append (λ thing. thing) (take i slots) (Some thing ∷ [])

  pub used_pass : get_or slots i None ≡ None → things_in (take (i + 1) slots) ≡ things_in (take i slots)
  used_pass at =
      ap things_in (take_more slots i None within ∙ ap (λ (slot : Option T). take i slots ++ slot ∷ []) at)
      ∙ filter_map-append (λ thing. thing) (take i slots) (None ∷ []) ∙ append-nil (things_in (take i slots))

abbrev pages_used : List LoadFile → ℕ
pages_used files = sum_by (λ (file : LoadFile). pages_of file.len) files

module _ (slots : List (Option LoadFile)) (i : ℕ) (within : i < length slots) where
  pub pages_next : (file : LoadFile) → get_or slots i None ≡ Some file → pages_used (things_in (take (i + 1) slots)) ≡ pages_used (things_in (take i slots)) + pages_of file.len
  pages_next file at =
      let one : pages_used (file ∷ []) ≡ pages_of file.len = (let first = sum_by-cons (λ (file : LoadFile). pages_of file.len) file [] in omega (arith, first)) in
      let both = sum_by-append (λ (file : LoadFile). pages_of file.len) (things_in (take i slots)) (file ∷ []) in
      ap pages_used (used_next slots i within file at) ∙ both ∙ ap (λ n. pages_used (things_in (take i slots)) + n) one

  pub pages_pass : get_or slots i None ≡ None → pages_used (things_in (take (i + 1) slots)) ≡ pages_used (things_in (take i slots))
  pages_pass at = ap pages_used (used_pass slots i within at)

-- the pages that files name, one file after the other
abbrev pub named_by : List LoadFile → List ℕ
named_by files = concat (map pages_named files)

pub named_among : (files : List LoadFile) (file : LoadFile) (page : ℕ) → Contains files file → Contains (pages_named file) page → Contains (named_by files) page
named_among [] file page (k, within, is) named = absurd (omega arith)
named_among (first ∷ rest) file page there named = elim (contains_cases first rest file there) [
  | inl same ↦ Contains-append_left (pages_named first) (named_by rest) page (subst (λ (f : LoadFile). Contains (pages_named f) page) (sym same) named)
  | inr other ↦ Contains-append_right (pages_named first) (named_by rest) page (named_among rest file page other named)
]

few_named : (files : List LoadFile) → length (named_by files) ≤ sum_by (λ (file : LoadFile). pages_of file.len) files
few_named [] = omega arith
few_named (first ∷ rest) =
    omega (
      arith,
      few_named rest,
      sum_by-cons (λ (file : LoadFile). pages_of file.len) first rest,
      length-append (pages_named first) (named_by rest),
      length-take (pages_of first.len) first.pages,
    )

module _ (tables : Tables) (taken : List ℕ) where
  abbrev in_use : List ℕ
  in_use = named_by (things_in tables.files.items) ++ taken

  in_use_has : (page : ℕ) → IsPageInUse tables taken page → Contains in_use page
  in_use_has page (inl named) = Contains-append_left (named_by (things_in tables.files.items)) taken page (named_among (things_in tables.files.items) named.0 page named.1 named.2)
  in_use_has page (inr there) = Contains-append_right (named_by (things_in tables.files.items)) taken page there

  -- where each load page is in use, there are as many as that
  pub all_in_use : ((page : ℕ) → IsPastJournal page → IsOnDevice page → IsPageInUse tables taken page) → LOAD_PAGES ≤ pages_in tables + length taken
  all_in_use each =
      let from_first : List ℕ = map place_among in_use in
      let has = λ (place : ℕ) (below : place < LOAD_PAGES). (
      let there = contains_map place_among in_use (load_page_at place) (in_use_has (load_page_at place) (each (load_page_at place) (omega arith) (omega (arith, below)))) in
      let is : place_among (load_page_at place) ≡ place = omega arith in
      list_any-from_Contains nat_eq_equiv place from_first (subst (Contains from_first) is there)) in
      let many = le-length_from_below from_first LOAD_PAGES has in
      omega (arith, many, length-map in_use place_among, length-append (named_by (things_in tables.files.items)) taken, few_named (things_in tables.files.items))

-- with one page more
pub in_use_next : (tables : Tables) (taken : List ℕ) (next : ℕ) → ((page : ℕ) → IsPastJournal page → page < next → IsPageInUse tables taken page) → IsPageInUse tables taken next
    → (page : ℕ) → IsPastJournal page → page < next + 1 → IsPageInUse tables taken page
in_use_next tables taken next before here page from below = elim (cases_lt page next) [
  | inl less ↦ before page from less
  | inr not ↦ (let is : next ≡ page = omega (arith, not, below) in subst (IsPageInUse tables taken) is here)
]
