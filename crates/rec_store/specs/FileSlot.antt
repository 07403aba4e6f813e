-- The load directory of an Executable Load File, of 256 bytes: its name, its length, and the load pages that hold it. A page
-- number has nine bits above that of the first load page. The low eight of the i-th stand in byte 64 + i, and the ninth in a bit map from byte 192 on,
-- the highest bit of a byte first.
use Rattle.std.specs.Prelude.{◌≡◌, ℕ, ◌+◌, ◌-◌, ◌*◌, ◌/◌, ◌%◌, ◌^◌, ◌<◌, ◌≤◌, List, Option, slice_index}
use Rattle.byteorder.specs.Endian.{big_from}
use Rattle.card_types.specs.Well.{pages_of}
use Rattle.card_types.specs.declared.limits.TheConstants.{FILE_LIMIT}
use Rattle.card_types.specs.declared.tables.LoadFile.{LoadFile}
use Rattle.page_journal.specs.declared.pages.TheConstants.{FIRST_LOAD_PAGE}
use Rattle.rec_store.specs.Bytes.{HasAid}
use Rattle.rec_store.specs.Slot.{SlotHolds}

abbrev pub ninth_bit : List ℕ → ℕ → ℕ
ninth_bit slot i = slice_index slot (192 + i / 8) / 2 ^ (7 - i % 8) % 2

-- the number of the i-th load page
abbrev pub page_in : List ℕ → ℕ → ℕ
page_in slot i = FIRST_LOAD_PAGE + 256 * ninth_bit slot i + slice_index slot (64 + i)

pub record IsFileIn (slot : List ℕ) (file : LoadFile) : Type 0 where
  pub mark : slice_index slot 0 ≡ 0x01
  pub aid : HasAid slot file.aid
  pub domain : slice_index slot 18 ≡ file.domain
  pub size : big_from 19 2 slot ≡ file.len
  pub limit : file.len ≤ FILE_LIMIT
  pub pages : (i : ℕ) → i < pages_of file.len → slice_index file.pages i ≡ page_in slot i

abbrev pub HoldsFile : List ℕ → Option LoadFile → Type 0
HoldsFile = SlotHolds IsFileIn
