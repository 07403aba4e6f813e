-- Which page of a device is what (this profile's own): store pages, the journal, and load pages up to the last page.
use Rattle.std.specs.Prelude.{ℕ, ◌<◌, ◌≤◌}
use Rattle.flash_core.specs.declared.page.TheConstants.{PAGES}
use Rattle.page_journal.specs.declared.pages.TheConstants.{FIRST_LOAD_PAGE, STORE_PAGES}

abbrev pub IsStorePage : ℕ → Type 0
IsStorePage page = page < STORE_PAGES

abbrev pub IsLoadPage : ℕ → Type 0
IsLoadPage page = (FIRST_LOAD_PAGE ≤ page) × (page < PAGES)
