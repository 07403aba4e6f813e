-- The tables that store pages hold.
use Rattle.std.specs.Prelude.{ℕ, ◌+◌, ◌*◌, ◌/◌, ◌<◌, List, Option, All}
use Rattle.card_check.specs.IsCard.{IsInLoadPages}
use Rattle.card_types.specs.Represents.{HasSlots, things_in, thing_in}
use Rattle.card_types.specs.declared.limits.TheConstants.{ENTRIES, FILES, KEYS, OBJECTS}
use Rattle.card_types.specs.declared.tables.Tables.{Tables}
use Rattle.rec_store.specs.EntrySlot.{HoldsEntry}
use Rattle.rec_store.specs.FileSlot.{HoldsFile}
use Rattle.rec_store.specs.KeySlot.{HoldsKey, IsRoomyKey}
use Rattle.rec_store.specs.ObjectSlot.{HoldsObject}
use Rattle.rec_store.specs.Places.{entry_slot, file_slot, key_slot, object_slot, slot_at}
use Rattle.rec_store.specs.StoreLayout.{FitsLayout}
use Rattle.rec_store.specs.Superblock.{IsSuperblock}
use Rattle.rec_store.specs.declared.store_layout.Layout.{Layout}

-- the first so many slots hold these things
abbrev pub AreHeld : {T : Type 0} → (List ℕ → Option T → Type 0) → (ℕ → List ℕ) → ℕ → List (Option T) → Type 0
AreHeld holds slot count things = (i : ℕ) → i < count → holds (slot i) (thing_in things i)

-- a page holds the things of its slots, as the page with this number of those
abbrev pub HoldsPage : {T : Type 0} → (List ℕ → Option T → Type 0) → ℕ → List ℕ → ℕ → List (Option T) → Type 0
HoldsPage holds size page number things = (place : ℕ) → place < 256 / size → holds (slot_at page size place) (thing_in things (number * (256 / size) + place))

-- the store pages hold these tables, in this layout
pub record HoldsTables (layout : Layout) (store : ℕ → List ℕ) (tables : Tables) : Type 0 where
  pub slots : HasSlots tables
  pub superblock : IsSuperblock (store 0) layout tables.life
  pub entries : AreHeld HoldsEntry (entry_slot store) ENTRIES tables.entries.items
  pub files : AreHeld HoldsFile (file_slot store) FILES tables.files.items
  pub keys : AreHeld HoldsKey (key_slot store) KEYS tables.keys.items
  pub objects : AreHeld HoldsObject (object_slot store) OBJECTS tables.objects.items
  pub fits : FitsLayout layout tables.keys.items

-- slots have room for all that is in the tables
pub record AreRoomy (tables : Tables) : Type 0 where
  pub slots : HasSlots tables
  pub files : All IsInLoadPages (things_in tables.files.items)
  pub keys : All IsRoomyKey (things_in tables.keys.items)
