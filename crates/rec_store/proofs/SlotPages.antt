-- For the crates above too: the page of a slot is one of those with slots of its kind.
use Rattle.std.proofs.Common.{ℕ, ◌-◌, ◌/◌, ◌<◌, arith}
use Rattle.std.specs.Prelude.{Contains}
use Rattle.std.proofs.lemmas.List.FromFn.{get_or-range_with_len}
use Rattle.card_types.specs.declared.limits.TheConstants.{ENTRIES, KEYS, OBJECTS}
use Rattle.page_journal.specs.declared.pages.TheConstants.{STORE_PAGES}
use Rattle.rec_store.specs.Places.{entry_page, entry_pages, key_page, key_pages, object_page, object_pages}
use Rattle.rec_store.specs.declared.slot_places.TheConstants.{ENTRY_BYTES, FIRST_ENTRY_PAGE, FIRST_FILE_PAGE, FIRST_KEY_PAGE, FIRST_OBJECT_PAGE, KEY_BYTES, OBJECT_BYTES}

pub among_entry_pages : (slot : ℕ) → slot < ENTRIES → Contains entry_pages (entry_page slot)
among_entry_pages slot low =
    let within : slot / (256 / ENTRY_BYTES) < FIRST_FILE_PAGE - FIRST_ENTRY_PAGE = omega (arith, low) in
    (slot / (256 / ENTRY_BYTES), within, get_or-range_with_len FIRST_ENTRY_PAGE (FIRST_FILE_PAGE - FIRST_ENTRY_PAGE) (slot / (256 / ENTRY_BYTES)) (entry_page slot) within)

pub among_key_pages : (slot : ℕ) → slot < KEYS → Contains key_pages (key_page slot)
among_key_pages slot low =
    let within : slot / (256 / KEY_BYTES) < FIRST_OBJECT_PAGE - FIRST_KEY_PAGE = omega (arith, low) in
    (slot / (256 / KEY_BYTES), within, get_or-range_with_len FIRST_KEY_PAGE (FIRST_OBJECT_PAGE - FIRST_KEY_PAGE) (slot / (256 / KEY_BYTES)) (key_page slot) within)

pub among_object_pages : (slot : ℕ) → slot < OBJECTS → Contains object_pages (object_page slot)
among_object_pages slot low =
    let within : slot / (256 / OBJECT_BYTES) < STORE_PAGES - FIRST_OBJECT_PAGE = omega (arith, low) in
    (slot / (256 / OBJECT_BYTES), within, get_or-range_with_len FIRST_OBJECT_PAGE (STORE_PAGES - FIRST_OBJECT_PAGE) (slot / (256 / OBJECT_BYTES)) (object_page slot) within)
