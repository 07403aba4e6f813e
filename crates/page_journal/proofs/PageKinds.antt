-- Which page is what, as proofs ask it: here, and in the crates above.
use Rattle.std.proofs.Common.{◌≡◌, ◌⊎◌, ℕ, ◌+◌, ◌-◌, ◌*◌, ◌<◌, ◌≤◌}
use Rattle.std.proofs.lemmas.Bool.{cases_lt}
use Rattle.flash_core.specs.declared.page.TheConstants.{PAGES}
use Rattle.page_journal.specs.Pages.{IsStorePage}
use Rattle.page_journal.specs.declared.pages.TheConstants.{COPIES, DESCRIPTOR, FIRST_LOAD_PAGE, GATE, STORE_PAGES}

abbrev pub gate_page : ℕ
gate_page = GATE

abbrev pub IsGate : ℕ → Type 0
IsGate page = page ≡ gate_page

abbrev pub descriptor_page : ℕ
descriptor_page = DESCRIPTOR

-- where a copy stands
abbrev pub copy_page : ℕ → ℕ
copy_page copy = COPIES + copy

-- the page is no store page
abbrev pub IsPastStore : ℕ → Type 0
IsPastStore page = STORE_PAGES ≤ page

-- the page is in no part of the journal, and no store page
abbrev pub IsPastJournal : ℕ → Type 0
IsPastJournal page = FIRST_LOAD_PAGE ≤ page

-- a load page by its place among them, and the place of one
abbrev pub load_page_at : ℕ → ℕ
load_page_at place = FIRST_LOAD_PAGE + place

abbrev pub place_among : ℕ → ℕ
place_among page = page - FIRST_LOAD_PAGE

-- a device has this page
abbrev pub IsOnDevice : ℕ → Type 0
IsOnDevice page = page < PAGES

-- the pages from the first on, with so many slots each, have room for all slots before the end of the store pages
abbrev pub AreWithinStore : (first all each : ℕ) → Type 0
AreWithinStore first all each = first * each + all ≤ STORE_PAGES * each

pub journal_or_past : (page : ℕ) → (page < FIRST_LOAD_PAGE) ⊎ IsPastJournal page
journal_or_past page = cases_lt page FIRST_LOAD_PAGE

-- a store page or a load page
abbrev pub IsPage : ℕ → Type 0
IsPage page = IsStorePage page ⊎ IsPastJournal page
