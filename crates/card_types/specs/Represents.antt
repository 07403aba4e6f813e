-- What the tables of a card say by names.
use Rattle.std.specs.List.{concat, filter_map}
use Rattle.std.specs.List.Sorted.{IsPermutation}
use Rattle.std.specs.Option.{option_map}
use Rattle.std.specs.Prelude.{ℕ, List, Option, None, slice_index_or, ◌≡◌, ◌+◌, ◌/◌, ◌==◌, ◌&&◌, [], Bool, map, filter, take, unwrap_or, nat_lt, MatchOption, length}
use Rattle.card_types.specs.Registry.{IsAscending, Registry}
use Rattle.card_types.specs.Well.{Well}
use Rattle.card_types.specs.declared.factory.TheConstants.{ISSUER}
use Rattle.card_types.specs.declared.limits.TheConstants.{ENTRIES, FILES, KEYS, OBJECTS}
use Rattle.card_types.specs.declared.tables.Entry.{Entry}
use Rattle.card_types.specs.declared.tables.KeyRec.{KeyRec}
use Rattle.card_types.specs.declared.tables.LoadFile.{LoadFile}
use Rattle.card_types.specs.declared.tables.Object.{Object}
use Rattle.card_types.specs.declared.tables.Tables.{Tables}
use Rattle.card_types.specs.declared.tables.TheConstants.{ISSUER_SLOT}
use Rattle.card_types.specs.Registry as registry

-- what a slot of a list holds; there is nothing past the last one
abbrev pub thing_in : {T : Type 0} → List (Option T) → ℕ → Option T
thing_in slots slot = slice_index_or slots slot None

-- what the used slots hold
abbrev pub things_in : {T : Type 0} → List (Option T) → List T
things_in slots = filter_map (λ thing. thing) slots

-- the AID of the domain in a slot, and of the Executable Load File in one
abbrev pub domain_aid : List (Option Entry) → ℕ → List ℕ
domain_aid entries slot = unwrap_or (option_map (λ entry. entry.aid) (thing_in entries slot)) []

abbrev pub file_aid : List (Option LoadFile) → ℕ → List ℕ
file_aid files slot = unwrap_or (option_map (λ file. file.aid) (thing_in files slot)) []

-- the slot of the domain of the entry in a slot
abbrev pub domain_slot : List (Option Entry) → ℕ → Option ℕ
domain_slot entries slot = option_map (λ entry. entry.domain) (thing_in entries slot)

abbrev pub entry_of : List (Option Entry) → List (Option LoadFile) → Entry → registry.Entry
entry_of entries files entry = record {
  aid = entry.aid;
  domain = domain_aid entries entry.domain;
  file = file_aid files entry.file;
  module_ = entry.«module»;
  life = entry.life;
  privileges = entry.privileges;
  receipts = entry.receipts;
}

-- the bytes of an Executable Load File are in its pages of 256 bytes, which stand outside the tables
abbrev pub file_of : (ℕ → List ℕ) → List (Option Entry) → LoadFile → registry.LoadFile
file_of page entries file = record {
  aid = file.aid;
  domain = domain_aid entries file.domain;
  bytes = take file.len (concat (map page (take ((file.len + 255) / 256) file.pages)));
}

abbrev pub key_of : List (Option Entry) → KeyRec → registry.Key
key_of entries key = record {
  owner = domain_aid entries key.owner;
  version = key.version;
  identifier = key.identifier;
  bytes = key.bytes.items;
}

-- the key with key identifier 01 keeps the counter of its set
abbrev pub keeps_counter : KeyRec → Bool
keeps_counter key = key.identifier == 1 && nat_lt key.version 0x70

abbrev pub counter_of : List (Option Entry) → KeyRec → registry.Counter
counter_of entries key = record { owner = domain_aid entries key.owner; version = key.version; number = key.counter }

abbrev pub object_of : List (Option Entry) → Object → registry.Object
object_of entries object = record {
  owner = domain_aid entries object.owner;
  tag = object.tag;
  value = object.value.items;
}

-- each list has what the used slots hold, and is in ascending order
pub record Represents (page : ℕ → List ℕ) (tables : Tables) (said : registry.Registry) : Type 0 where
  pub life : tables.life ≡ said.life
  pub entries : IsPermutation (map (entry_of tables.entries.items tables.files.items) (things_in tables.entries.items)) said.entries
  pub files : IsPermutation (map (file_of page tables.entries.items) (things_in tables.files.items)) said.files
  pub keys : IsPermutation (map (key_of tables.entries.items) (things_in tables.keys.items)) said.keys
  pub counters : IsPermutation (map (counter_of tables.entries.items) (filter keeps_counter (things_in tables.keys.items))) said.counters
  pub objects : IsPermutation (map (object_of tables.entries.items) (things_in tables.objects.items)) said.objects
  pub ascending : IsAscending said

-- How tables lay out a registry: a slot for each thing that there is room for, and the Issuer Security Domain in a slot of
-- its own.

-- the Issuer Security Domain is in its slot
abbrev pub HasIssuer : List (Option Entry) → Type 0
HasIssuer entries = MatchOption (thing_in entries ISSUER_SLOT) ⊥ (λ entry. entry.aid ≡ ISSUER)

-- there is a slot for each thing that a card has room for
pub record HasSlots (tables : Tables) : Type 0 where
  pub entries : length tables.entries.items ≡ ENTRIES
  pub files : length tables.files.items ≡ FILES
  pub keys : length tables.keys.items ≡ KEYS
  pub objects : length tables.objects.items ≡ OBJECTS

-- There is a slot for each such thing, and the Issuer Security Domain is in its own.
pub record HasLayout (tables : Tables) : Type 0 where
  pub slots : HasSlots tables
  pub issuer : HasIssuer tables.entries.items

-- For the code inside. The tables of a card: they lay out a registry that a card may have.

pub record IsInOrder (tables : Tables) : Type 0 where
  pub layout : HasLayout tables
  pub page : ℕ → List ℕ
  pub said : Registry
  pub says : Represents page tables said
  pub well : Well said
