-- The registries that a card may have: what of them is always so (GlobalPlatform Card Specification 2.3.1, chapters 5 to
-- 7). The numbers of the limits are this profile's own.
use Rattle.std.specs.Prelude.{◌≡◌, ◌⊎◌, ℕ, ◌+◌, ◌/◌, ◌<◌, ◌≤◌, List, [], Bool, true, false, None, MatchOption, IsSome, All, Contains, length, Some, ◌||◌, ◌&&◌}
use Rattle.std.specs.List.{sum_by}
use Rattle.card_types.specs.Aid.{IsAid, same_aid}
use Rattle.card_types.specs.Hierarchy.{IsLine}
use Rattle.card_types.specs.Privileges.{IsNamed, authorized_management, delegated_management, has, receipt_generation, token_verification}
use Rattle.card_types.specs.Registry.{Registry, Entry, LoadFile, Key, Counter, Object, counter_named, domain_of, entry_named, file_named, is_domain, key_named, keys_of}
use Rattle.card_types.specs.declared.data_objects.TheConstants.{CARD_DATA, CARD_SPECIFIC, DIVERSIFICATION, IMAGE_NUMBER, ISSUER_NUMBER}
use Rattle.card_types.specs.declared.factory.TheConstants.{ISSUER, FACTORY_FILE, FACTORY_MODULE}
use Rattle.card_types.specs.declared.life.Life.{Life}
use Rattle.card_types.specs.declared.life.Life.TheVariants.{Personalized}
use Rattle.card_types.specs.declared.limits.TheConstants.{COUNTER_LIMIT, DOMAIN_KEYS, ENTRIES, FILES, FILE_LIMIT, KEYS, LOAD_PAGES, OBJECTS, RECEIPT_LIMIT}

-- the AID is that of a security domain
abbrev pub IsDomainNamed : Registry → List ℕ → Type 0
IsDomainNamed registry aid = MatchOption (entry_named registry aid) ⊥ (λ entry. is_domain entry ≡ true)

-- A root is a security domain that is its own domain, as the Issuer Security Domain is (GlobalPlatform Card Specification
-- 2.3.1, 7.2).
abbrev pub IsRoot : Registry → List ℕ → Type 0
IsRoot registry aid = domain_of registry aid ≡ Some aid

-- steps to the domain lead from this AID to a root
abbrev pub LeadsToRoot : Registry → List ℕ → Type 0
LeadsToRoot registry aid = (line : List (List ℕ)) × IsLine (domain_of registry) aid line

-- the Issuer Security Domain: its own domain, personalized, not locked, from the factory's Executable Load File
pub record IsIssuerDomain (entry : Entry) : Type 0 where
  pub domain : entry.domain ≡ ISSUER
  pub file : entry.file ≡ FACTORY_FILE
  pub module_ : entry.module_ ≡ FACTORY_MODULE
  pub life : entry.life.life ≡ Personalized
  pub unlocked : entry.life.locked ≡ false

-- the factory's Executable Load File: without bytes, in the Issuer Security Domain
pub record IsFactoryFile (file : LoadFile) : Type 0 where
  pub domain : file.domain ≡ ISSUER
  pub bytes : file.bytes ≡ []

-- a domain alone is personalized
abbrev pub has_life : Bool → Life → Bool
has_life domain Personalized = domain
has_life domain life = true

abbrev pub has_domain_privilege : Entry → Bool
has_domain_privilege entry =
    has authorized_management entry.privileges || has delegated_management entry.privileges
    || has token_verification entry.privileges || has receipt_generation entry.privileges

-- how many pages of 256 bytes an Executable Load File takes
abbrev pub pages_of : ℕ → ℕ
pages_of size = (size + 255) / 256

-- The lengths of keys: those of AES-128, AES-192 and AES-256.
abbrev pub IsKeyLength : ℕ → Type 0
IsKeyLength n = (n ≡ 16) ⊎ (n ≡ 24) ⊎ (n ≡ 32)

-- the keys of a domain that have one key version number have one length
abbrev pub HasLengthOfSet : List Key → Key → Type 0
HasLengthOfSet keys key = (other : Key) → Contains keys other → other.owner ≡ key.owner → other.version ≡ key.version → length other.bytes ≡ length key.bytes

-- A key of a set has a key version number of 01 to 6F and a key identifier of 01 to 03. A token key has key
-- version number 70, a receipt key 71, and key identifier 01.
abbrev pub IsKeyName : ℕ → ℕ → Type 0
IsKeyName version identifier =
    ((0x01 ≤ version) × (version ≤ 0x6F) × (0x01 ≤ identifier) × (identifier ≤ 0x03))
    ⊎ (((version ≡ 0x70) ⊎ (version ≡ 0x71)) × (identifier ≡ 0x01))

-- the key set of this key version number is whole: its three keys and its counter
pub record IsWholeSet (registry : Registry) (owner : List ℕ) (version : ℕ) : Type 0 where
  pub first : IsSome (key_named registry owner version 1)
  pub second : IsSome (key_named registry owner version 2)
  pub third : IsSome (key_named registry owner version 3)
  pub counter : IsSome (counter_named registry owner version)

-- The data objects that a domain may have: Issuer Identification Number and Card Image Number (42, 45), key
-- diversification data (CF), card data and card-specific data (66, 5F50).
abbrev pub IsObject : ℕ → ℕ → Type 0
IsObject tag size =
    (((tag ≡ ISSUER_NUMBER) ⊎ (tag ≡ IMAGE_NUMBER)) × (1 ≤ size) × (size ≤ 10))
    ⊎ ((tag ≡ DIVERSIFICATION) × (size ≡ 10))
    ⊎ (((tag ≡ CARD_DATA) ⊎ (tag ≡ CARD_SPECIFIC)) × (1 ≤ size) × (size ≤ 120))

-- what is so of each entry by itself
pub record IsProperEntry (entry : Entry) : Type 0 where
  pub aid : IsAid entry.aid
  pub module_ : IsAid entry.module_
  pub kind : is_domain entry ≡ same_aid entry.file FACTORY_FILE
  pub domain_module : is_domain entry ≡ true → entry.module_ ≡ FACTORY_MODULE
  pub life : has_life (is_domain entry) entry.life.life ≡ true
  pub named_privileges : IsNamed entry.privileges
  pub domain_privileges : has_domain_privilege entry ≡ true → is_domain entry ≡ true
  pub one_management : (has authorized_management entry.privileges && has delegated_management entry.privileges) ≡ false
  pub receipts : entry.receipts ≤ RECEIPT_LIMIT

-- of each entry of a registry
pub record IsWellEntry (registry : Registry) (entry : Entry) : Type 0 where
  pub proper : IsProperEntry entry
  pub domain : IsDomainNamed registry entry.domain
  pub line : LeadsToRoot registry entry.aid
  pub loaded : IsSome (file_named registry entry.file)

-- of each Executable Load File
pub record IsWellFile (registry : Registry) (file : LoadFile) : Type 0 where
  pub aid : IsAid file.aid
  pub apart : entry_named registry file.aid ≡ None
  pub domain : IsDomainNamed registry file.domain
  pub size : (file.aid ≡ FACTORY_FILE) ⊎ ((1 ≤ length file.bytes) × (length file.bytes ≤ FILE_LIMIT))

-- of each key
pub record IsWellKey (registry : Registry) (key : Key) : Type 0 where
  pub owner : IsDomainNamed registry key.owner
  pub size : IsKeyLength (length key.bytes)
  pub size_of_set : HasLengthOfSet registry.keys key
  pub name : IsKeyName key.version key.identifier
  pub whole : key.version < 0x70 → IsWholeSet registry key.owner key.version

-- of each counter
pub record IsWellCounter (registry : Registry) (counter : Counter) : Type 0 where
  pub set : IsWholeSet registry counter.owner counter.version
  pub version : counter.version < 0x70
  pub number : counter.number ≤ COUNTER_LIMIT

-- of each data object
pub record IsWellObject (registry : Registry) (object : Object) : Type 0 where
  pub owner : IsDomainNamed registry object.owner
  pub form : IsObject object.tag (length object.value)

pub record Well (registry : Registry) : Type 0 where
  pub few_entries : length registry.entries ≤ ENTRIES
  pub few_files : length registry.files ≤ FILES
  pub few_keys : length registry.keys ≤ KEYS
  pub few_objects : length registry.objects ≤ OBJECTS
  pub few_pages : sum_by (λ file. pages_of (length file.bytes)) registry.files ≤ LOAD_PAGES
  pub few_keys_each : (owner : List ℕ) → length (keys_of registry owner) ≤ DOMAIN_KEYS
  pub issuer : MatchOption (entry_named registry ISSUER) ⊥ IsIssuerDomain
  pub factory_file : MatchOption (file_named registry FACTORY_FILE) ⊥ IsFactoryFile
  pub entries : All (IsWellEntry registry) registry.entries
  pub files : All (IsWellFile registry) registry.files
  pub keys : All (IsWellKey registry) registry.keys
  pub counters : All (IsWellCounter registry) registry.counters
  pub objects : All (IsWellObject registry) registry.objects
