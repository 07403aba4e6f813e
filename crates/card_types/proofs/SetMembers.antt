-- The keys and the sequence counter of a key set that is whole, as members of the registry.
use Rattle.std.proofs.Common.{◌≡◌, ℕ, Bool, true, ◌==◌, ◌&&◌, List, Some}
use Rattle.std.specs.Prelude.{Contains, IsSome}
use Rattle.std.proofs.lemmas.Bool.{and_from, and_parts, eq-eqb, eqb-true}
use Rattle.card_types.specs.Aid.{same_aid}
use Rattle.card_types.specs.Registry.{Counter, Key, Registry, counter_named, key_named}
use Rattle.card_types.specs.Well.{IsWholeSet}
use Rattle.card_types.proofs.LeastOfList.{found_fits, found_some, some_found}
use Rattle.card_types.proofs.SameAid.{same_aid_decides}

module _ (registry : Registry) (owner : List ℕ) (version : ℕ) where
  -- a key of the domain with this key version number and key identifier
  pub record HasKeyNamed (identifier : ℕ) : Type 0 where
    pub key : Key
    pub is_there : Contains registry.keys key
    pub owner_is : key.owner ≡ owner
    pub version_is : key.version ≡ version
    pub identifier_is : key.identifier ≡ identifier

  -- a sequence counter of it with this key version number
  pub record HasCounterOf : Type 0 where
    pub counter : Counter
    pub is_there : Contains registry.counters counter
    pub owner_is : counter.owner ≡ owner
    pub version_is : counter.version ≡ version

  abbrev is_key : ℕ → Key → Bool
  is_key identifier key = same_aid key.owner owner && key.version == version && key.identifier == identifier

  key_of_name : (identifier : ℕ) (key : Key) → Contains registry.keys key → is_key identifier key ≡ true → HasKeyNamed identifier
  key_of_name identifier key there fits =
      let outer = and_parts (same_aid key.owner owner && key.version == version) (key.identifier == identifier) fits in
      let inner = and_parts (same_aid key.owner owner) (key.version == version) outer.0 in
      record {
        key = key;
        is_there = there;
        owner_is = (same_aid_decides key.owner owner).0 inner.0;
        version_is = eqb-true key.version version inner.1;
        identifier_is = eqb-true key.identifier identifier outer.1;
      }

  pub key_found : (identifier : ℕ) (key : Key) → key_named registry owner version identifier ≡ Some key → HasKeyNamed identifier
  key_found identifier key named = (let found = found_fits (is_key identifier) registry.keys key named in key_of_name identifier key found.0 found.1)

  pub key_there : (identifier : ℕ) → IsSome (key_named registry owner version identifier) → HasKeyNamed identifier
  key_there identifier some = (let found = found_some (is_key identifier) registry.keys some in key_of_name identifier found.0 found.1 found.2)

  pub key_is_named : (identifier : ℕ) → HasKeyNamed identifier → IsSome (key_named registry owner version identifier)
  key_is_named identifier has =
      some_found (is_key identifier) registry.keys has.key has.is_there
      (and_from (same_aid has.key.owner owner && has.key.version == version) (has.key.identifier == identifier)
      (and_from (same_aid has.key.owner owner) (has.key.version == version) ((same_aid_decides has.key.owner owner).1 has.owner_is) (eq-eqb has.key.version version has.version_is))
      (eq-eqb has.key.identifier identifier has.identifier_is))

  abbrev is_counter : Counter → Bool
  is_counter counter = same_aid counter.owner owner && counter.version == version

  pub counter_there : IsSome (counter_named registry owner version) → HasCounterOf
  counter_there some =
      let found = found_some is_counter registry.counters some in
      let parts = and_parts (same_aid found.0.owner owner) (found.0.version == version) found.2 in
      record { counter = found.0; is_there = found.1; owner_is = (same_aid_decides found.0.owner owner).0 parts.0; version_is = eqb-true found.0.version version parts.1 }

  pub counter_is_named : HasCounterOf → IsSome (counter_named registry owner version)
  counter_is_named has =
      some_found is_counter registry.counters has.counter has.is_there
      (and_from (same_aid has.counter.owner owner) (has.counter.version == version) ((same_aid_decides has.counter.owner owner).1 has.owner_is) (eq-eqb has.counter.version version has.version_is))

  -- these make a set whole
  pub whole_of : HasKeyNamed 1 → HasKeyNamed 2 → HasKeyNamed 3 → HasCounterOf → IsWholeSet registry owner version
  whole_of first second third counter = record {
    first = key_is_named 1 first;
    second = key_is_named 2 second;
    third = key_is_named 3 third;
    counter = counter_is_named counter;
  }

-- a set stays whole where its keys and its counter still have their names
pub whole_still : (before after : Registry) (owner : List ℕ) (version : ℕ)
    → ((identifier : ℕ) → HasKeyNamed before owner version identifier → HasKeyNamed after owner version identifier)
    → (HasCounterOf before owner version → HasCounterOf after owner version) → IsWholeSet before owner version → IsWholeSet after owner version
whole_still before after owner version keys counter set =
    whole_of after owner version
    (keys 1 (key_there before owner version 1 set.first)) (keys 2 (key_there before owner version 2 set.second)) (keys 3 (key_there before owner version 3 set.third))
    (counter (counter_there before owner version set.counter))
