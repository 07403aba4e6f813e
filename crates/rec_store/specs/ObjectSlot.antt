-- The slot of a data object, of 128 bytes.
use Rattle.std.specs.Prelude.{◌≡◌, ℕ, ◌≤◌, List, Option, length, slice_index}
use Rattle.byteorder.specs.Endian.{big_from}
use Rattle.card_types.specs.declared.tables.Object.{Object}
use Rattle.rec_store.specs.Bytes.{HasBytesAt}
use Rattle.rec_store.specs.Slot.{SlotHolds}

pub record IsObjectIn (slot : List ℕ) (object : Object) : Type 0 where
  pub mark : slice_index slot 0 ≡ 0x01
  pub owner : slice_index slot 1 ≡ object.owner
  pub tag : big_from 2 2 slot ≡ object.tag
  pub size : length object.value.items ≤ 120
  pub value : HasBytesAt slot 4 object.value.items

abbrev pub HoldsObject : List ℕ → Option Object → Type 0
HoldsObject = SlotHolds IsObjectIn
