-- When a change of a registry leaves it one that a card may have, with its lists in order. Each condition is one on the
-- registry before.
use Rattle.std.specs.Prelude.{◌≡◌, ◌≢◌, ℕ, ◌+◌, ◌<◌, ◌≤◌, List, Bool, true, false, None, Contains, IfSome, IsSome, length}
use Rattle.std.specs.List.{sum_by}
use Rattle.card_types.specs.Aid.{IsAid}
use Rattle.card_types.specs.Registry.{IsAscending, Entry, LoadFile, Registry, domain_of, entry_named, file_named, is_domain}
use Rattle.card_types.specs.Hierarchy.{IsLine}
use Rattle.card_types.specs.RegistryChange.{IsEntryAdded, IsFileAdded, with_card_life, with_life, with_locks, with_receipts, with_thing_in_domain, without_applications, without_entry, without_file}
use Rattle.card_types.specs.Well.{IsDomainNamed, IsProperEntry, Well, has_life, pages_of}
use Rattle.card_types.specs.declared.card_life.CardLife.{CardLife}
use Rattle.card_types.specs.declared.factory.TheConstants.{ISSUER, FACTORY_FILE}
use Rattle.card_types.specs.declared.life.LifeMark.{LifeMark}
use Rattle.card_types.specs.declared.limits.TheConstants.{ENTRIES, FILES, FILE_LIMIT, LOAD_PAGES, RECEIPT_LIMIT}

-- a registry that a card may have, with its lists in order
pub record IsOfCard (registry : Registry) : Type 0 where
  pub well : Well registry
  pub ascending : IsAscending registry

-- nothing in the registry has this AID
pub record IsFreeAid (registry : Registry) (aid : List ℕ) : Type 0 where
  pub no_entry : entry_named registry aid ≡ None
  pub no_file : file_named registry aid ≡ None

-- the entry may be added: its AID is free, there is room, and its domain and its Executable Load File are there
pub record MayAddEntry (registry : Registry) (entry : Entry) : Type 0 where
  pub free : IsFreeAid registry entry.aid
  pub room : length registry.entries < ENTRIES
  pub proper : IsProperEntry entry
  pub domain : IsDomainNamed registry entry.domain
  pub loaded : IsSome (file_named registry entry.file)

-- the Executable Load File may be added
pub record MayAddFile (registry : Registry) (file : LoadFile) : Type 0 where
  pub aid : IsAid file.aid
  pub free : IsFreeAid registry file.aid
  pub room : length registry.files < FILES
  pub domain : IsDomainNamed registry file.domain
  pub some : 1 ≤ length file.bytes
  pub most : length file.bytes ≤ FILE_LIMIT
  pub pages : sum_by (λ other. pages_of (length other.bytes)) registry.files + pages_of (length file.bytes) ≤ LOAD_PAGES

-- the entry, which is not the Issuer Security Domain, may have this life cycle state
pub record MayHaveLife (registry : Registry) (aid : List ℕ) (life : LifeMark) : Type 0 where
  pub other : aid ≢ ISSUER
  pub fits : IfSome (entry_named registry aid) (λ entry. has_life (is_domain entry) life.life ≡ true)

-- The thing may be moved to this domain: it is neither the Issuer Security Domain nor the factory's Executable Load File, and
-- not on the line of the domain, unless it is the domain itself, which is a root then.
pub record MayMove (registry : Registry) (aid domain : List ℕ) : Type 0 where
  pub other : aid ≢ ISSUER
  pub other_file : aid ≢ FACTORY_FILE
  pub into : IsDomainNamed registry domain
  pub not_below : (line : List (List ℕ)) → IsLine (domain_of registry) domain line → Contains line aid → domain ≡ aid

-- the entry may be removed: it is not the Issuer Security Domain, and nothing else is in it
pub record MayRemoveEntry (registry : Registry) (aid : List ℕ) : Type 0 where
  pub other : aid ≢ ISSUER
  pub no_entry : (entry : Entry) → Contains registry.entries entry → entry.domain ≡ aid → entry.aid ≡ aid
  pub no_file : (file : LoadFile) → Contains registry.files file → file.domain ≢ aid

-- the Executable Load File may be removed: it is not the factory's, and no entry comes from it
pub record MayRemoveFile (registry : Registry) (aid : List ℕ) : Type 0 where
  pub other : aid ≢ FACTORY_FILE
  pub no_entry : (entry : Entry) → Contains registry.entries entry → entry.file ≢ aid

-- each of these changes leaves such a registry
abbrev pub EntryAddedKeeps : Type 0
EntryAddedKeeps = (entry : Entry) (before after : Registry) → IsOfCard before → MayAddEntry before entry → IsEntryAdded entry before after → IsOfCard after

abbrev pub FileAddedKeeps : Type 0
FileAddedKeeps = (file : LoadFile) (before after : Registry) → IsOfCard before → MayAddFile before file → IsFileAdded file before after → IsOfCard after

abbrev pub LifeKeeps : Type 0
LifeKeeps = (registry : Registry) (aid : List ℕ) (life : LifeMark) → IsOfCard registry → MayHaveLife registry aid life → IsOfCard (with_life registry aid life)

abbrev pub LocksKeep : Type 0
LocksKeep = (registry : Registry) (these : List ℕ → Bool) (locked : Bool) → IsOfCard registry → these ISSUER ≡ false → IsOfCard (with_locks registry these locked)

abbrev pub ReceiptsKeep : Type 0
ReceiptsKeep = (registry : Registry) (aid : List ℕ) (number : ℕ) → IsOfCard registry → number ≤ RECEIPT_LIMIT → IsOfCard (with_receipts registry aid number)

abbrev pub CardLifeKeeps : Type 0
CardLifeKeeps = (registry : Registry) (life : CardLife) → IsOfCard registry → IsOfCard (with_card_life registry life)

abbrev pub MovedKeeps : Type 0
MovedKeeps = (registry : Registry) (aid domain : List ℕ) → IsOfCard registry → MayMove registry aid domain → IsOfCard (with_thing_in_domain registry aid domain)

abbrev pub EntryRemovedKeeps : Type 0
EntryRemovedKeeps = (registry : Registry) (aid : List ℕ) → IsOfCard registry → MayRemoveEntry registry aid → IsOfCard (without_entry registry aid)

abbrev pub FileRemovedKeeps : Type 0
FileRemovedKeeps = (registry : Registry) (aid : List ℕ) → IsOfCard registry → MayRemoveFile registry aid → IsOfCard (without_file registry aid)

-- what comes from one Executable Load File may go, but for the factory's
abbrev pub ApplicationsRemovedKeep : Type 0
ApplicationsRemovedKeep = (registry : Registry) (file : List ℕ) → IsOfCard registry → file ≢ FACTORY_FILE → IsOfCard (without_applications registry file)
