-- For the code inside. Things in the first slots of tables.
use Rattle.std.specs.Prelude.{◌≡◌, ℕ, ◌≤◌, List, Option, length}
use Rattle.card_types.specs.Represents.{HasSlots, thing_in}
use Rattle.card_types.specs.declared.card_life.CardLife.{CardLife}
use Rattle.card_types.specs.declared.limits.TheConstants.{ENTRIES, FILES, KEYS, OBJECTS}
use Rattle.card_types.specs.declared.tables.Entry.{Entry}
use Rattle.card_types.specs.declared.tables.KeyRec.{KeyRec}
use Rattle.card_types.specs.declared.tables.LoadFile.{LoadFile}
use Rattle.card_types.specs.declared.tables.Object.{Object}
use Rattle.card_types.specs.declared.tables.Tables.{Tables}

-- tables have a slot for each of them
pub record HaveRoom (entry_list : List (Option Entry)) (file_list : List (Option LoadFile)) (key_list : List (Option KeyRec)) (object_list : List (Option Object)) : Type 0 where
  pub entries : length entry_list ≤ ENTRIES
  pub files : length file_list ≤ FILES
  pub keys : length key_list ≤ KEYS
  pub objects : length object_list ≤ OBJECTS

-- they are in the first slots, and those after them are free
pub record HasFirst (tables : Tables) (state : CardLife) (entry_list : List (Option Entry)) (file_list : List (Option LoadFile)) (key_list : List (Option KeyRec)) (object_list : List (Option Object)) : Type 0 where
  pub slots : HasSlots tables
  pub life : tables.life ≡ state
  pub entries : (slot : ℕ) → thing_in tables.entries.items slot ≡ thing_in entry_list slot
  pub files : (slot : ℕ) → thing_in tables.files.items slot ≡ thing_in file_list slot
  pub keys : (slot : ℕ) → thing_in tables.keys.items slot ≡ thing_in key_list slot
  pub objects : (slot : ℕ) → thing_in tables.objects.items slot ≡ thing_in object_list slot
