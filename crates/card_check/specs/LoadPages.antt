-- For the code inside. Load pages that are named.
use Rattle.std.specs.Prelude.{◌≡◌, ℕ, ◌+◌, ◌<◌, ◌≤◌, ◌↔◌, Bool, true, false, List, Option, All, Contains, length, map, nat_eq, slice_index_or}
use Rattle.std.specs.List.{IsDistinct, concat}
use Rattle.card_types.specs.Represents.{things_in}
use Rattle.card_types.specs.declared.limits.TheConstants.{FILE_LIMIT, LOAD_PAGES}
use Rattle.card_types.specs.declared.tables.LoadFile.{LoadFile}
use Rattle.card_check.specs.IsCard.{pages_named}
use Rattle.page_journal.specs.Pages.{IsLoadPage}
use Rattle.page_journal.specs.declared.pages.TheConstants.{FIRST_LOAD_PAGE}

-- load pages, none of them twice
pub record AreLoadPages (pages : List ℕ) : Type 0 where
  pub each : All IsLoadPage pages
  pub apart : IsDistinct nat_eq pages

-- there is a mark for each load page, and the marks stand at those in the list
pub record HasMarks (marks : List Bool) (pages : List ℕ) : Type 0 where
  pub whole : length marks ≡ LOAD_PAGES
  pub at : (place : ℕ) → place < LOAD_PAGES → (slice_index_or marks place false ≡ true) ↔ Contains pages (FIRST_LOAD_PAGE + place)

-- the page is a load page, and not among those before
pub record IsNewPage (before : List ℕ) (page : ℕ) : Type 0 where
  pub is : IsLoadPage page
  pub other : Contains before page → ⊥

-- there is room for 128 page numbers, as an array has it
abbrev pub HasPageNumbers : LoadFile → Type 0
HasPageNumbers file = length file.pages ≡ 128

-- the pages of some Executable Load Files
abbrev pub all_pages : List (Option LoadFile) → List ℕ
all_pages files = concat (map pages_named (things_in files))

-- no file is longer than one may be, and their pages are load pages, none of them twice
pub record HaveLoadPages (files : List (Option LoadFile)) : Type 0 where
  pub lengths : All (λ file. file.len ≤ FILE_LIMIT) (things_in files)
  pub pages : AreLoadPages (all_pages files)
