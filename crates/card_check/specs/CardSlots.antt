-- For the code inside. What the slots of a card hold, by the numbers of the slots.
use Rattle.std.specs.List.{count_by}
use Rattle.std.specs.Prelude.{◌≡◌, ℕ, List, Option, Some, ◌≢◌, ◌<◌, ◌≤◌, ◌==◌, ◌&&◌, ◌||◌, Bool, true, false, None, MatchOption, IsSome, length}
use Rattle.card_check.specs.LoadPages.{HaveLoadPages}
use Rattle.card_types.specs.Aid.{IsAid}
use Rattle.card_types.specs.Found.{aid_of}
use Rattle.card_types.specs.Hierarchy.{IsLine}
use Rattle.card_types.specs.KeySets.{HasKey, HasKeys}
use Rattle.card_types.specs.Privileges.{IsNamed, authorized_management, delegated_management, has, receipt_generation, security_domain, token_verification}
use Rattle.card_types.specs.Represents.{thing_in, HasSlots, domain_slot, keeps_counter}
use Rattle.card_types.specs.Well.{IsKeyLength, IsKeyName, IsObject, has_life}
use Rattle.card_types.specs.declared.factory.TheConstants.{ISSUER, FACTORY_FILE, FACTORY_MODULE}
use Rattle.card_types.specs.declared.found.Found.{Found}
use Rattle.card_types.specs.declared.life.Life.TheVariants.{Personalized}
use Rattle.card_types.specs.declared.limits.TheConstants.{COUNTER_LIMIT, DOMAIN_KEYS, RECEIPT_LIMIT}
use Rattle.card_types.specs.declared.privileges.Privileges.{Privileges}
use Rattle.card_types.specs.declared.tables.Entry.{Entry}
use Rattle.card_types.specs.declared.tables.KeyRec.{KeyRec}
use Rattle.card_types.specs.declared.tables.LoadFile.{LoadFile}
use Rattle.card_types.specs.declared.tables.Object.{Object}
use Rattle.card_types.specs.declared.tables.Tables.{Tables}
use Rattle.card_types.specs.declared.found.Found.TheVariants as found

-- What is so of the thing in each used slot.

pub record EachSlot {T : Type 0} (slots : List (Option T)) (Is : ℕ → T → Type 0) : Type 0 where
  pub at : (slot : ℕ) (thing : T) → thing_in slots slot ≡ Some thing → Is slot thing

-- the slot holds a security domain
abbrev pub IsDomainSlot : List (Option Entry) → ℕ → Type 0
IsDomainSlot entries slot = MatchOption (thing_in entries slot) ⊥ (λ entry. has security_domain entry.privileges ≡ true)

-- nothing in another slot has this AID
abbrev pub IsOnlyWithAid : Tables → Found → List ℕ → Type 0
IsOnlyWithAid tables this aid = (other : Found) → aid_of tables other ≡ Some aid → other ≡ this

-- steps to the domain lead from the slot to a root, which is its own domain
abbrev pub SlotLeadsToRoot : List (Option Entry) → ℕ → Type 0
SlotLeadsToRoot entries slot = (line : List ℕ) × IsLine (domain_slot entries) slot line

-- a security domain is set apart by its Executable Load File, its Module and its life cycle states
pub record HasKind (entry : Entry) : Type 0 where
  pub module_ : IsAid entry.«module»
  pub kind : has security_domain entry.privileges ≡ (entry.file == 0)
  pub domain_module : has security_domain entry.privileges ≡ true → entry.«module» ≡ FACTORY_MODULE
  pub life : has_life (has security_domain entry.privileges) entry.life.life ≡ true

-- a privilege that a security domain alone may hold
abbrev pub has_domain_right : Privileges → Bool
has_domain_right privileges =
    has authorized_management privileges || has delegated_management privileges
    || has token_verification privileges || has receipt_generation privileges

-- the privileges have names and go together
pub record HasRights (privileges : Privileges) : Type 0 where
  pub named : IsNamed privileges
  pub domain_rights : has_domain_right privileges ≡ true → has security_domain privileges ≡ true
  pub one_management : (has authorized_management privileges && has delegated_management privileges) ≡ false

-- the entry in the slot is one that a card may have
pub record IsCardEntry (tables : Tables) (slot : ℕ) (entry : Entry) : Type 0 where
  pub aid : IsAid entry.aid
  pub alone : IsOnlyWithAid tables (found.Entry slot) entry.aid
  pub domain : IsDomainSlot tables.entries.items entry.domain
  pub leads : SlotLeadsToRoot tables.entries.items slot
  pub loaded : IsSome (thing_in tables.files.items entry.file)
  pub kind : HasKind entry
  pub rights : HasRights entry.privileges
  pub receipts : entry.receipts ≤ RECEIPT_LIMIT

-- the Executable Load File in the slot is one that a card may have, but for its pages
pub record IsCardFile (tables : Tables) (slot : ℕ) (file : LoadFile) : Type 0 where
  pub aid : IsAid file.aid
  pub alone : IsOnlyWithAid tables (found.File slot) file.aid
  pub domain : IsDomainSlot tables.entries.items file.domain
  pub bytes : 0 < slot → 1 ≤ file.len

-- the slot holds a key of this owner
abbrev pub is_key_of : ℕ → Option KeyRec → Bool
is_key_of owner None = false
is_key_of owner (Some key) = key.owner == owner

-- the keys of this owner with this key version number have this length
abbrev pub HaveLength : List (Option KeyRec) → ℕ → ℕ → ℕ → Type 0
HaveLength keys owner version size =
    (other : ℕ) (key : KeyRec) → thing_in keys other ≡ Some key → key.owner ≡ owner → key.version ≡ version → length key.bytes.items ≡ size

-- the slot holds a key of that key's owner with its key version number, of another length
abbrev pub HasOtherLength : KeyRec → Option KeyRec → Type 0
HasOtherLength key None = ⊥
HasOtherLength key (Some other) =
    (other.owner ≡ key.owner) × (other.version ≡ key.version) × (length other.bytes.items ≢ length key.bytes.items)

-- the key in the slot is one that a card may have
pub record IsCardKey (tables : Tables) (slot : ℕ) (key : KeyRec) : Type 0 where
  pub owner : IsDomainSlot tables.entries.items key.owner
  pub size : IsKeyLength (length key.bytes.items)
  pub size_of_set : HaveLength tables.keys.items key.owner key.version (length key.bytes.items)
  pub name : IsKeyName key.version key.identifier
  pub alone : (other : ℕ) → HasKey tables.keys.items key.owner key.version key.identifier other → other ≡ slot
  pub whole : key.version < 0x70 → (slots : List ℕ) × HasKeys tables.keys.items key.owner key.version slots
  pub counter : keeps_counter key ≡ true → key.counter ≤ COUNTER_LIMIT
  pub few : count_by (is_key_of key.owner) tables.keys.items ≤ DOMAIN_KEYS

-- the slot holds a data object of this owner with this tag
abbrev pub HasObject : List (Option Object) → ℕ → ℕ → ℕ → Type 0
HasObject objects owner tag slot = MatchOption (thing_in objects slot) ⊥ (λ object. (object.owner ≡ owner) × (object.tag ≡ tag))

-- the data object in the slot is one that a card may have
pub record IsCardObject (tables : Tables) (slot : ℕ) (object : Object) : Type 0 where
  pub owner : IsDomainSlot tables.entries.items object.owner
  pub form : IsObject object.tag (length object.value.items)
  pub alone : (other : ℕ) → HasObject tables.objects.items object.owner object.tag other → other ≡ slot

-- the entry of the Issuer Security Domain
pub record IsIssuerEntry (entry : Entry) : Type 0 where
  pub aid : entry.aid ≡ ISSUER
  pub domain : entry.domain ≡ 0
  pub file : entry.file ≡ 0
  pub module_ : entry.«module» ≡ FACTORY_MODULE
  pub life : entry.life.life ≡ Personalized
  pub unlocked : entry.life.locked ≡ false

-- the factory's Executable Load File, without bytes
pub record IsFactoryLoadFile (file : LoadFile) : Type 0 where
  pub aid : file.aid ≡ FACTORY_FILE
  pub domain : file.domain ≡ 0
  pub len : file.len ≡ 0

-- the slots are those of a card
pub record HasCardSlots (tables : Tables) : Type 0 where
  pub room : HasSlots tables
  pub issuer : MatchOption (thing_in tables.entries.items 0) ⊥ IsIssuerEntry
  pub factory_file : MatchOption (thing_in tables.files.items 0) ⊥ IsFactoryLoadFile
  pub entries : EachSlot tables.entries.items (IsCardEntry tables)
  pub files : EachSlot tables.files.items (IsCardFile tables)
  pub pages : HaveLoadPages tables.files.items
  pub keys : EachSlot tables.keys.items (IsCardKey tables)
  pub objects : EachSlot tables.objects.items (IsCardObject tables)
