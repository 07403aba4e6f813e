-- The slot of a key, of 64 bytes. The sequence counter of a key set stands with its key of key identifier 01, and is not read
-- of any other key.
use Rattle.std.specs.Prelude.{◌≡◌, ℕ, ◌≤◌, List, Option, length, slice_index, if◌then◌else◌}
use Rattle.byteorder.specs.Endian.{big_from}
use Rattle.card_types.specs.Represents.{keeps_counter}
use Rattle.card_types.specs.declared.limits.TheConstants.{COUNTER_LIMIT}
use Rattle.card_types.specs.declared.tables.KeyRec.{KeyRec}
use Rattle.rec_store.specs.Bytes.{HasBytesAt}
use Rattle.rec_store.specs.Slot.{SlotHolds}

pub record IsKeyIn (slot : List ℕ) (key : KeyRec) : Type 0 where
  pub mark : slice_index slot 0 ≡ 0x01
  pub owner : slice_index slot 1 ≡ key.owner
  pub version : slice_index slot 2 ≡ key.version
  pub identifier : slice_index slot 3 ≡ key.identifier
  pub size : length key.bytes.items ≤ 32
  pub bytes : HasBytesAt slot 4 key.bytes.items
  pub counter : key.counter ≡ (if keeps_counter key then big_from 37 3 slot else 0)

abbrev pub HoldsKey : List ℕ → Option KeyRec → Type 0
HoldsKey = SlotHolds IsKeyIn

-- a slot has room for the key: its counter is one that a key set may have, or 0 where it keeps none
abbrev pub IsRoomyKey : KeyRec → Type 0
IsRoomyKey key = key.counter ≤ (if keeps_counter key then COUNTER_LIMIT else 0)
