-- Marks at the load pages that are in use.
use Rattle.std.proofs.Common.{◌≡◌, inl, inr, ℕ, ◌+◌, ◌<◌, Bool, true, false, List, [], ◌∷◌, ◌++◌, length, take, get_or, Option, None, Some, ap, sym, subst, ◌∙◌, append_assoc, arith}
use Rattle.std.specs.Prelude.{Contains, map, slice_index_or}
use Rattle.std.specs.List.{concat}
use Rattle.std.proofs.lemmas.Bool.{false≢true}
use Rattle.std.proofs.lemmas.List.{append-nil, map-append, take_more}
use Rattle.std.proofs.lemmas.List.Elements.{Contains-append_cases, Contains-append_left, Contains-append_right, Contains-push_cases}
use Rattle.std.proofs.lemmas.List.Folds.{concat-append}
use Rattle.card_check.proofs.LoadPagesNamed.{all_of_members}
use Rattle.load_session.specs.Prelude.{HasMarks, IsFree, IsLoadPage, IsPageInUse, all_pages, pages_named, things_in}
use Rattle.card_types.proofs.Members.{contains_first, contains_later}
use Rattle.card_types.specs.declared.limits.TheConstants.{LOAD_PAGES}
use Rattle.card_types.specs.declared.tables.LoadFile.{LoadFile}
use Rattle.card_types.specs.declared.tables.Tables.{Tables}
use Rattle.load_session.proofs.PagesInUse.{named_among, used_next, used_pass}
use Rattle.page_journal.proofs.PageKinds.{load_page_at}

-- a page that is no load page has no mark
pub marks_pass : (marks : List Bool) (before : List ℕ) (page : ℕ) → HasMarks marks before → (IsLoadPage page → ⊥) → HasMarks marks (before ++ page ∷ [])
marks_pass marks before page has other = record {
  whole = has.whole;
  at = λ place within. (
    λ marked. Contains-append_left before (page ∷ []) (load_page_at place) ((has.at place within).0 marked),
    λ there. (has.at place within).1 (elim (Contains-push_cases before page (load_page_at place) there) [
      | inl earlier ↦ earlier
      | inr last ↦ absurd (other (omega (arith, last), omega (arith, last, within)))
    ]),
  );
}

-- one page more
pub marks_more : (before pages : List ℕ) (i : ℕ) (marks : List Bool) (page : ℕ) → i < length pages → page ≡ get_or pages i 0 → HasMarks marks ((before ++ take i pages) ++ page ∷ [])
    → HasMarks marks (before ++ take (i + 1) pages)
marks_more before pages i marks page within is has =
    let on : (before ++ take i pages) ++ page ∷ [] ≡ before ++ take (i + 1) pages =
    ap (λ (p : ℕ). (before ++ take i pages) ++ p ∷ []) is ∙ append_assoc before (take i pages) (get_or pages i 0 ∷ [])
    ∙ ap (λ (ps : List ℕ). before ++ ps) (sym (take_more pages i 0 within)) in
    subst (HasMarks marks) on has

-- one file more
module _ (files : List (Option LoadFile)) (i : ℕ) (within : i < length files) where
  pub pages_of_next : (file : LoadFile) → get_or files i None ≡ Some file → all_pages (take (i + 1) files) ≡ all_pages (take i files) ++ pages_named file
  pages_of_next file at =
      let before = things_in (take i files) in
      ap (λ (fs : List LoadFile). concat (map pages_named fs)) (used_next files i within file at)
      ∙ ap concat (map-append pages_named before (file ∷ [])) ∙ concat-append (map pages_named before) (pages_named file ∷ [])
      ∙ ap (λ (ps : List ℕ). concat (map pages_named before) ++ ps) (append-nil (pages_named file))

  pub pages_of_pass : get_or files i None ≡ None → all_pages (take (i + 1) files) ≡ all_pages (take i files)
  pages_of_pass at = ap (λ (fs : List LoadFile). concat (map pages_named fs)) (used_pass files i within at)

named_of : (files : List LoadFile) (page : ℕ) → Contains (concat (map pages_named files)) page → (file : LoadFile) × Contains files file × Contains (pages_named file) page
named_of [] page there = absurd (omega (arith, there.1))
named_of (first ∷ rest) page there = elim (Contains-append_cases (pages_named first) (concat (map pages_named rest)) page there) [
  | inl here ↦ (first, contains_first first rest, here)
  | inr later ↦ (let found = named_of rest page later in (found.0, contains_later first rest found.0 found.1, found.2))
]

-- where the marks stand at the pages that are in use
module _ (tables : Tables) (taken : List ℕ) (marks : List Bool) (has : HasMarks marks (all_pages tables.files.items ++ taken)) (place : ℕ) (within : place < LOAD_PAGES) where
  pub marked_in_use : slice_index_or marks place false ≡ true → IsPageInUse tables taken (load_page_at place)
  marked_in_use marked = elim (Contains-append_cases (all_pages tables.files.items) taken (load_page_at place) ((has.at place within).0 marked)) [
    | inl named ↦ inl (named_of (things_in tables.files.items) (load_page_at place) named)
    | inr there ↦ inr there
  ]

  unmarked : slice_index_or marks place false ≡ false → Contains (all_pages tables.files.items ++ taken) (load_page_at place) → ⊥
  unmarked none there = false≢true (sym none ∙ (has.at place within).1 there)

  pub unmarked_free : slice_index_or marks place false ≡ false → IsFree tables (load_page_at place)
  unmarked_free none = all_of_members (λ (file : LoadFile). Contains (pages_named file) (load_page_at place) → ⊥) (things_in tables.files.items)
      (λ file there named. unmarked none (Contains-append_left (all_pages tables.files.items) taken (load_page_at place) (named_among (things_in tables.files.items) file (load_page_at place) there named)))

  pub unmarked_apart : slice_index_or marks place false ≡ false → Contains taken (load_page_at place) → ⊥
  unmarked_apart none there = unmarked none (Contains-append_right (all_pages tables.files.items) taken (load_page_at place) there)
