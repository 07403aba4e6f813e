-- For the code inside. The keys of a domain in their slots, in ascending order of key version number and key identifier.
use Rattle.std.specs.Prelude.{ℕ, Bool, true, false, ◌&&◌, ◌==◌, List, Option, None, Some, not, nat_lt}
use Rattle.std.specs.List.{list_any}
use Rattle.std.specs.Ordering.{is_lt, nat_cmp, ordering_then}
use Rattle.std.specs.declared.cmp.Ordering.{Ordering}
use Rattle.card_types.specs.Registry.{Registry}
use Rattle.card_types.specs.Represents.{counter_of, domain_aid}
use Rattle.card_types.specs.declared.tables.Entry.{Entry}
use Rattle.card_types.specs.declared.tables.KeyRec.{KeyRec}
use Rattle.policy_machine.specs.KeySets.{UsesSet}
use Rattle.policy_slots.specs.declared.key_order.KeyName.{KeyName}

abbrev pub name_order : KeyRec → KeyRec → Ordering
name_order a b = ordering_then (nat_cmp a.version b.version) (nat_cmp a.identifier b.identifier)

-- the key is past a name, if one is given
abbrev pub is_past : Option KeyName → KeyRec → Bool
is_past None key = true
is_past (Some name) key = is_lt (ordering_then (nat_cmp name.version key.version) (nat_cmp name.identifier key.identifier))

-- a key of the domain in a slot, past a name
abbrev pub follows : ℕ → Option KeyName → KeyRec → Bool
follows owner after key = (key.owner == owner) && is_past after key

-- a key that keeps the counter of a key set of the domain in a slot
abbrev pub keeps_counter_of : ℕ → KeyRec → Bool
keeps_counter_of owner key = (key.identifier == 1 && nat_lt key.version 0x70) && key.owner == owner

-- that of the key set with this key version number
abbrev pub keeps_counter_with : ℕ → ℕ → KeyRec → Bool
keeps_counter_with owner version key = keeps_counter_of owner key && key.version == version

abbrev pub version_order : KeyRec → KeyRec → Ordering
version_order a b = nat_cmp a.version b.version

abbrev pub holds_counter_of : ℕ → Option KeyRec → Bool
holds_counter_of owner None = false
holds_counter_of owner (Some key) = keeps_counter_of owner key

-- the domain in a slot has a key set
abbrev pub has_set_in : List (Option KeyRec) → ℕ → Bool
has_set_in keys owner = list_any (holds_counter_of owner) keys

-- the slot holds a key that keeps the counter of a key set of the domain with another key version number
abbrev pub holds_counter_but : ℕ → ℕ → Option KeyRec → Bool
holds_counter_but owner version None = false
holds_counter_but owner version (Some key) = keeps_counter_of owner key && not (key.version == version)

-- the key keeps the counter of the key set that a session of the domain in the slot would use
abbrev pub UsesSetOfKey : List (Option Entry) → Registry → ℕ → ℕ → KeyRec → Type 0
UsesSetOfKey entries registry domain version key =
    UsesSet registry (domain_aid entries domain) version (domain_aid entries key.owner) (counter_of entries key)
