-- The slot of an application or a security domain, of 64 bytes. Numbers are big-endian, and bytes that are not named are
-- not read. Privileges with names are in three bytes, so no others are kept.
use Rattle.std.specs.Prelude.{◌≡◌, ◌%◌, ◌^◌, ◌<◌, ℕ, List, Option, slice_index}
use Rattle.byteorder.specs.Endian.{big_from}
use Rattle.card_types.specs.Aid.{IsAid}
use Rattle.card_types.specs.LifeMark.{life_mark_code}
use Rattle.card_types.specs.Privileges.{bits_of}
use Rattle.card_types.specs.declared.tables.Entry.{Entry}
use Rattle.rec_store.specs.Bytes.{HasAid, HasBytesAt}
use Rattle.rec_store.specs.Slot.{SlotHolds}

pub record IsEntryIn (slot : List ℕ) (entry : Entry) : Type 0 where
  pub mark : slice_index slot 0 ≡ 0x01
  pub aid : HasAid slot entry.aid
  pub domain : slice_index slot 18 ≡ entry.domain
  pub file : slice_index slot 19 ≡ entry.file
  pub module_aid : IsAid entry.«module»
  pub module_ : HasBytesAt slot 20 entry.«module»
  pub life : slice_index slot 37 ≡ life_mark_code entry.life
  pub privileges : big_from 38 3 slot ≡ bits_of entry.privileges % 2 ^ 24
  pub receipts : big_from 41 2 slot ≡ entry.receipts

abbrev pub HoldsEntry : List ℕ → Option Entry → Type 0
HoldsEntry = SlotHolds IsEntryIn

-- its privileges are in three bytes, as all that have names
abbrev pub HasThreeBytes : Entry → Type 0
HasThreeBytes entry = bits_of entry.privileges < 2 ^ 24
