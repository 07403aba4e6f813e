-- Where a page stands, as what is so and not by the search for it.
use Rattle.std.specs.Prelude.{◌≡◌, ℕ, ◌+◌, ◌<◌, List, true, false, slice_index}
use Rattle.flash_core.specs.declared.page.Page.{Page}
use Rattle.page_journal.specs.Journal.{HasValidJournal, descriptor, is_open, place}
use Rattle.page_journal.specs.declared.pages.TheConstants.{COPIES}

-- the descriptor names this copy for the page
abbrev pub IsCopyOf : List Page → ℕ → ℕ → Type 0
IsCopyOf pages copy page = (copy < slice_index (descriptor pages) 0) × (slice_index (descriptor pages) (copy + 1) ≡ page)

-- with a closed gate a page stands at home, with an open one in the copy that is named for it, and at home where none is
pub record PageStandsAt (pages : List Page) (page at : ℕ) : Type 0 where
  pub closed : is_open pages ≡ false → at ≡ page
  pub copied : is_open pages ≡ true → (copy : ℕ) → IsCopyOf pages copy page → at ≡ COPIES + copy
  pub home : is_open pages ≡ true → ((copy : ℕ) → IsCopyOf pages copy page → ⊥) → at ≡ page

abbrev pub PagesStand : Type 0
PagesStand = (pages : List Page) (page : ℕ) → HasValidJournal pages → PageStandsAt pages page (place pages page)
