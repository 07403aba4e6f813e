-- The persistent state of a card, by names: the GlobalPlatform Registry (GlobalPlatform Card Specification 2.3.1, 6.5),
-- with the keys and data objects of its security domains. A name is an AID, or an owner's AID and a number.
use Rattle.std.specs.List.Sorted.{IsStrictlySortedBy}
use Rattle.std.specs.Option.{option_map}
use Rattle.std.specs.Ordering.{nat_cmp, ordering_then}
use Rattle.std.specs.Prelude.{ℕ, List, Bool, Option, find, filter, ◌==◌, ◌&&◌, map}
use Rattle.std.specs.declared.cmp.Ordering.{Ordering}
use Rattle.card_types.specs.Aid.{same_aid, aid_order}
use Rattle.card_types.specs.Privileges.{has, security_domain}
use Rattle.card_types.specs.declared.card_life.CardLife.{CardLife}
use Rattle.card_types.specs.declared.life.LifeMark.{LifeMark}
use Rattle.card_types.specs.declared.privileges.Privileges.{Privileges}

-- an application or a security domain, with its domain, the Executable Load File and Module that it comes from, and its
-- last receipt number
pub record Entry : Type 0 where
  pub aid : List ℕ
  pub domain : List ℕ
  pub file : List ℕ
  pub module_ : List ℕ
  pub life : LifeMark
  pub privileges : Privileges
  pub receipts : ℕ

-- an Executable Load File, with its domain and its bytes
pub record LoadFile : Type 0 where
  pub aid : List ℕ
  pub domain : List ℕ
  pub bytes : List ℕ

-- a key of a domain, by key version number and key identifier
pub record Key : Type 0 where
  pub owner : List ℕ
  pub version : ℕ
  pub identifier : ℕ
  pub bytes : List ℕ

-- the sequence counter of a key set
pub record Counter : Type 0 where
  pub owner : List ℕ
  pub version : ℕ
  pub number : ℕ

-- a data object of a domain
pub record Object : Type 0 where
  pub owner : List ℕ
  pub tag : ℕ
  pub value : List ℕ

pub record Registry : Type 0 where
  pub life : CardLife
  pub entries : List Entry
  pub files : List LoadFile
  pub keys : List Key
  pub counters : List Counter
  pub objects : List Object

-- the entry with this AID, and the Executable Load File with it
abbrev pub entry_named : Registry → List ℕ → Option Entry
entry_named registry aid = find (λ entry. same_aid entry.aid aid) registry.entries

abbrev pub file_named : Registry → List ℕ → Option LoadFile
file_named registry aid = find (λ file. same_aid file.aid aid) registry.files

abbrev pub is_domain : Entry → Bool
is_domain entry = has security_domain entry.privileges

-- the AID of an entry's domain
abbrev pub domain_of : Registry → List ℕ → Option (List ℕ)
domain_of registry aid = option_map (λ entry. entry.domain) (entry_named registry aid)

-- the keys of a domain, by ascending key version number and key identifier
abbrev pub keys_of : Registry → List ℕ → List Key
keys_of registry owner = filter (λ key. same_aid key.owner owner) registry.keys

-- the key of a domain with this key version number and key identifier
abbrev pub key_named : Registry → List ℕ → ℕ → ℕ → Option Key
key_named registry owner version identifier =
    find (λ key. same_aid key.owner owner && key.version == version && key.identifier == identifier) registry.keys

-- the counter of a domain's key set with this key version number
abbrev pub counter_named : Registry → List ℕ → ℕ → Option Counter
counter_named registry owner version = find (λ counter. same_aid counter.owner owner && counter.version == version) registry.counters

-- the data object of a domain with this tag
abbrev pub object_named : Registry → List ℕ → ℕ → Option Object
object_named registry owner tag = find (λ object. same_aid object.owner owner && object.tag == tag) registry.objects

-- The order of a registry's lists: each is in ascending order of its names, AIDs by their bytes, a prefix first.

abbrev pub key_order : Key → Key → Ordering
key_order a b = ordering_then (aid_order a.owner b.owner) (ordering_then (nat_cmp a.version b.version) (nat_cmp a.identifier b.identifier))

abbrev pub counter_order : Counter → Counter → Ordering
counter_order a b = ordering_then (aid_order a.owner b.owner) (nat_cmp a.version b.version)

abbrev pub object_order : Object → Object → Ordering
object_order a b = ordering_then (aid_order a.owner b.owner) (nat_cmp a.tag b.tag)

pub record IsAscending (registry : Registry) : Type 0 where
  pub entries : IsStrictlySortedBy aid_order (map (λ entry. entry.aid) registry.entries)
  pub files : IsStrictlySortedBy aid_order (map (λ file. file.aid) registry.files)
  pub keys : IsStrictlySortedBy key_order registry.keys
  pub counters : IsStrictlySortedBy counter_order registry.counters
  pub objects : IsStrictlySortedBy object_order registry.objects
