-- What the pages of a device stand for (this profile's own). Store page p is page p, and copy i the page of that number after the
-- first copy. With an open gate the copies count, and the pages that the descriptor names do not.
use Rattle.std.specs.Prelude.{◌≡◌, ◌≢◌, ℕ, zero, suc, ◌+◌, ◌<◌, ◌≤◌, Bool, true, if◌then◌else◌, ◌==◌, List, [], Option, None, Some, slice_get, slice_index}
use Rattle.flash_core.specs.declared.page.Page.{Page}
use Rattle.frame_pool.specs.declared.pool.TheConstants.{FRAMES}
use Rattle.page_journal.specs.declared.pages.TheConstants.{COPIES, DESCRIPTOR, GATE, STORE_PAGES}

-- the bytes of a page, where there is one
abbrev pub bytes_of : Option Page → List ℕ
bytes_of None = []
bytes_of (Some page) = page.bytes

-- the gate is open
abbrev pub is_open : List Page → Bool
is_open pages = slice_index (bytes_of (slice_get pages GATE)) 0 == 165

-- the bytes of the descriptor: how many copies there are, and then the store page of each
abbrev pub descriptor : List Page → List ℕ
descriptor pages = bytes_of (slice_get pages DESCRIPTOR)

-- a descriptor has a valid form
pub record IsValid (bytes : List ℕ) : Type 0 where
  pub some : 0 < slice_index bytes 0
  pub room : slice_index bytes 0 ≤ FRAMES
  pub homes : (i : ℕ) → i < slice_index bytes 0 → slice_index bytes (i + 1) < STORE_PAGES
  pub distinct : (i j : ℕ) → i < j → j < slice_index bytes 0 → slice_index bytes (i + 1) ≢ slice_index bytes (j + 1)

-- where a page stands: in the first copy from this one on that the descriptor names it for, of so many, or at home
abbrev pub place_from : List ℕ → ℕ → ℕ → ℕ → ℕ
place_from bytes copy zero page = page
place_from bytes copy (suc left) page = if slice_index bytes (copy + 1) == page then COPIES + copy else place_from bytes (copy + 1) left page

abbrev pub copied_place : List ℕ → ℕ → ℕ
copied_place bytes page = place_from bytes 0 (slice_index bytes 0) page

-- by the descriptor of an open gate, or none
abbrev pub place_of_page : Option Page → ℕ → ℕ
place_of_page None page = page
place_of_page (Some journal) page = copied_place journal.bytes page

abbrev pub place : List Page → ℕ → ℕ
place pages page = if is_open pages then copied_place (descriptor pages) page else page

-- a store page or a load page of the list that these pages stand for
abbrev pub stored_page : List Page → ℕ → Option Page
stored_page pages page = slice_get pages (place pages page)

-- they stand for a list: where the gate is open the descriptor has a valid form
abbrev pub HasValidJournal : List Page → Type 0
HasValidJournal pages = is_open pages ≡ true → IsValid (descriptor pages)
