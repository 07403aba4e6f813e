-- Which key sets a session uses: those of the domain itself, or where it has none, those of the nearest domain above it
-- that has one. This is the profile's own choice (Amendment D, 7.1.1, leaves it open).
use Rattle.std.specs.List.{list_any}
use Rattle.std.specs.Prelude.{◌≡◌, ℕ, List, Bool, Option, Some, find, is_some, ◌==◌, ◌&&◌, if◌then◌else◌, filter, not}
use Rattle.card_types.specs.Aid.{same_aid}
use Rattle.card_types.specs.Hierarchy.{IsLine}
use Rattle.card_types.specs.Registry.{Counter, Registry, domain_of, Key}

-- the counter of the key set with the lowest key version number, of a domain's own
abbrev pub lowest_counter : Registry → List ℕ → Option Counter
lowest_counter registry owner = find (λ counter. same_aid counter.owner owner) registry.counters

abbrev pub has_set : Registry → List ℕ → Bool
has_set registry owner = is_some (lowest_counter registry owner)

-- the first domain with a key set on the line from the domain up
pub record OwnsSets (registry : Registry) (domain owner : List ℕ) : Type 0 where
  pub line : List (List ℕ)
  pub is_line : IsLine (domain_of registry) domain line
  pub first : find (has_set registry) line ≡ Some owner

-- the counter of the key set with the lowest key version number, of those that a session of the domain would use
abbrev pub UsesCounter : Registry → List ℕ → Counter → Type 0
UsesCounter registry domain counter = (owner : List ℕ) × OwnsSets registry domain owner × (lowest_counter registry owner ≡ Some counter)

-- the counter of a domain's key set with this key version number; 00 asks for the lowest (Amendment D, 7.1.1)
abbrev pub set_counter : Registry → List ℕ → ℕ → Option Counter
set_counter registry owner version =
    if version == 0 then lowest_counter registry owner
    else find (λ counter. same_aid counter.owner owner && counter.version == version) registry.counters

-- the key set that a session of the domain would use, by its counter
abbrev pub UsesSet : Registry → List ℕ → ℕ → List ℕ → Counter → Type 0
UsesSet registry domain version owner counter = OwnsSets registry domain owner × (set_counter registry owner version ≡ Some counter)

-- there is no such key set
abbrev pub NoSetToUse : Registry → List ℕ → ℕ → Type 0
NoSetToUse registry domain version = (owner : List ℕ) (counter : Counter) → UsesSet registry domain version owner counter → ⊥

-- The keys of a domain with one key version number, and what is left where they go (GlobalPlatform Card Specification 2.3.1,
-- 11.2 and 11.8). No key has key version number 00.

abbrev pub is_key_numbered : List ℕ → ℕ → Key → Bool
is_key_numbered owner version key = same_aid key.owner owner && key.version == version

abbrev pub is_counter_numbered : List ℕ → ℕ → Counter → Bool
is_counter_numbered owner version counter = same_aid counter.owner owner && counter.version == version

-- the domain has a key of this key version number
abbrev pub has_key_version : Registry → List ℕ → ℕ → Bool
has_key_version registry owner version = list_any (is_key_numbered owner version) registry.keys

-- the keys without those of a domain with a key version number, and the sequence counters without that of this key set
abbrev pub keys_but : List ℕ → ℕ → List Key → List Key
keys_but owner version keys = filter (λ key. not (is_key_numbered owner version key)) keys

abbrev pub counters_but : List ℕ → ℕ → List Counter → List Counter
counters_but owner version counters = filter (λ counter. not (is_counter_numbered owner version counter)) counters

-- the registry with other keys and sequence counters
abbrev pub with_keys : Registry → List Key → List Counter → Registry
with_keys registry keys counters = record registry { keys = keys; counters = counters }
