-- Where the slots of a card stand: which bytes of its store pages each of them is. Slots of one kind stand one after the
-- other, from the first byte of a page on, and as many in a page as there is room for.
use Rattle.std.specs.Prelude.{ℕ, ◌+◌, ◌-◌, ◌*◌, ◌/◌, ◌%◌, List, slice_range}
use Rattle.std.specs.List.{range_with_len}
use Rattle.page_journal.specs.declared.pages.TheConstants.{STORE_PAGES}
use Rattle.rec_store.specs.declared.slot_places.TheConstants.{ENTRY_BYTES, FILE_BYTES, FIRST_ENTRY_PAGE, FIRST_FILE_PAGE, FIRST_KEY_PAGE, FIRST_OBJECT_PAGE, KEY_BYTES, OBJECT_BYTES}

-- the slot at this place of a page, of those of this size
abbrev pub slot_at : List ℕ → ℕ → ℕ → List ℕ
slot_at page size place = slice_range page (place * size) (place * size + size)

-- the slot with this number, of those of this size that begin in this page
abbrev pub slot_from : (ℕ → List ℕ) → ℕ → ℕ → ℕ → List ℕ
slot_from store first size number = slot_at (store (first + number / (256 / size))) size (number % (256 / size))

abbrev pub entry_slot : (ℕ → List ℕ) → ℕ → List ℕ
entry_slot store = slot_from store FIRST_ENTRY_PAGE ENTRY_BYTES

-- each Executable Load File has a page for its load directory
abbrev pub file_slot : (ℕ → List ℕ) → ℕ → List ℕ
file_slot store = slot_from store FIRST_FILE_PAGE FILE_BYTES

abbrev pub key_slot : (ℕ → List ℕ) → ℕ → List ℕ
key_slot store = slot_from store FIRST_KEY_PAGE KEY_BYTES

abbrev pub object_slot : (ℕ → List ℕ) → ℕ → List ℕ
object_slot store = slot_from store FIRST_OBJECT_PAGE OBJECT_BYTES

-- the store page with this slot
abbrev pub entry_page : ℕ → ℕ
entry_page slot = FIRST_ENTRY_PAGE + slot / (256 / ENTRY_BYTES)

abbrev pub file_page : ℕ → ℕ
file_page slot = FIRST_FILE_PAGE + slot

abbrev pub key_page : ℕ → ℕ
key_page slot = FIRST_KEY_PAGE + slot / (256 / KEY_BYTES)

abbrev pub object_page : ℕ → ℕ
object_page slot = FIRST_OBJECT_PAGE + slot / (256 / OBJECT_BYTES)

-- the store pages with the slots of entries, of keys, and of data objects
abbrev pub entry_pages : List ℕ
entry_pages = range_with_len FIRST_ENTRY_PAGE (FIRST_FILE_PAGE - FIRST_ENTRY_PAGE)

abbrev pub key_pages : List ℕ
key_pages = range_with_len FIRST_KEY_PAGE (FIRST_OBJECT_PAGE - FIRST_KEY_PAGE)

abbrev pub object_pages : List ℕ
object_pages = range_with_len FIRST_OBJECT_PAGE (STORE_PAGES - FIRST_OBJECT_PAGE)
