-- The tree of a security domain (GlobalPlatform Card Specification 2.3.1, 7.2): the domain and all entries below it, the Executable
-- Load Files that are in one of these domains, and the keys and data objects that these own. Sequence counters are no members.
use Rattle.std.specs.Prelude.{ℕ, List, Contains}
use Rattle.card_types.specs.Hierarchy.{IsLine}
use Rattle.card_types.specs.Registry.{Entry, Key, LoadFile, Object, Registry, domain_of}
use Rattle.policy_machine.specs.Charge.{IsAtOrAbove}

-- what a registry has: each with all that is said of it
pub data Member : Type 0 where
  AnEntry : Entry → Member
  AFile : LoadFile → Member
  AKey : Key → Member
  AnObject : Object → Member

abbrev pub IsMember : Registry → Member → Type 0
IsMember registry (AnEntry entry) = Contains registry.entries entry
IsMember registry (AFile file) = Contains registry.files file
IsMember registry (AKey key) = Contains registry.keys key
IsMember registry (AnObject object) = Contains registry.objects object

-- the AID by which it counts: an entry's own, that of a file's domain, and that of the owner of a key or data object
abbrev pub member_place : Member → List ℕ
member_place (AnEntry entry) = entry.aid
member_place (AFile file) = file.domain
member_place (AKey key) = key.owner
member_place (AnObject object) = object.owner

-- it is in the tree of the domain
abbrev pub InTreeOf : Registry → List ℕ → Member → Type 0
InTreeOf registry domain member = IsMember registry member × IsAtOrAbove registry domain (member_place member)

-- The tree of a domain has each entry at or below it, each Executable Load File in one of these, and what each of these owns.
pub record IsWholeTree (registry : Registry) (domain : List ℕ) : Type 0 where
  pub entries : (entry : Entry) → Contains registry.entries entry → IsAtOrAbove registry domain entry.aid → InTreeOf registry domain (AnEntry entry)
  pub files : (file : LoadFile) → Contains registry.files file → IsAtOrAbove registry domain file.domain → InTreeOf registry domain (AFile file)
  pub keys : (key : Key) → Contains registry.keys key → IsAtOrAbove registry domain key.owner → InTreeOf registry domain (AKey key)
  pub objects : (object : Object) → Contains registry.objects object → IsAtOrAbove registry domain object.owner → InTreeOf registry domain (AnObject object)

-- Each member of the tree is one still, the same, and the line from the domain up to its root is the same.
pub record TreeStays (before after : Registry) (domain : List ℕ) : Type 0 where
  pub members : (member : Member) → InTreeOf before domain member → InTreeOf after domain member
  pub line : (line : List (List ℕ)) → IsLine (domain_of before) domain line → IsLine (domain_of after) domain line
