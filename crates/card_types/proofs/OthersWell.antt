-- What is so of keys, sequence counters and data objects stays so in another registry that has them and their domains.
use Rattle.std.proofs.Common.{◌≡◌, ℕ, List, sym, subst}
use Rattle.std.specs.Prelude.{All, Contains}
use Rattle.std.proofs.lemmas.List.Elements.{All-contains, All-contains_itself, All-weaker}
use Rattle.card_types.proofs.SetMembers.{HasCounterOf, HasKeyNamed, whole_still}
use Rattle.card_types.specs.Registry.{Counter, Key, Object, Registry}
use Rattle.card_types.specs.Well.{IsDomainNamed, IsWellCounter, IsWellKey, IsWellObject, IsWholeSet, Well}

-- the things of these owners are in both, and their owners are domains in both
pub record KeepsOwned (stays : List ℕ → Type 0) (before after : Registry) : Type 0 where
  pub domains : (aid : List ℕ) → stays aid → IsDomainNamed before aid → IsDomainNamed after aid
  pub keys_there : (key : Key) → Contains before.keys key → stays key.owner → Contains after.keys key
  pub keys_from : (key : Key) → Contains after.keys key → Contains before.keys key × stays key.owner
  pub counters_there : (counter : Counter) → Contains before.counters counter → stays counter.owner → Contains after.counters counter
  pub counters_from : (counter : Counter) → Contains after.counters counter → Contains before.counters counter × stays counter.owner
  pub objects_from : (object : Object) → Contains after.objects object → Contains before.objects object × stays object.owner

module _ (stays : List ℕ → Type 0) (before after : Registry) (keeps : KeepsOwned stays before after) where
  module _ (owner : List ℕ) (version : ℕ) (stay : stays owner) where
    key_still : (identifier : ℕ) → HasKeyNamed before owner version identifier → HasKeyNamed after owner version identifier
    key_still identifier has = record {
      key = has.key;
      is_there = keeps.keys_there has.key has.is_there (subst stays (sym has.owner_is) stay);
      owner_is = has.owner_is;
      version_is = has.version_is;
      identifier_is = has.identifier_is;
    }

    counter_still : HasCounterOf before owner version → HasCounterOf after owner version
    counter_still has = record {
      counter = has.counter;
      is_there = keeps.counters_there has.counter has.is_there (subst stays (sym has.owner_is) stay);
      owner_is = has.owner_is;
      version_is = has.version_is;
    }

    set_still : IsWholeSet before owner version → IsWholeSet after owner version
    set_still set = whole_still before after owner version key_still counter_still set

  module _ (well : Well before) where
    pub keys_well : All (IsWellKey after) after.keys
    keys_well = All-weaker (Contains after.keys) (IsWellKey after) (λ key there.
        (let from = keeps.keys_from key there in
        let is = All-contains (IsWellKey before) before.keys key well.keys from.0 in
        record {
          owner = keeps.domains key.owner from.1 is.owner;
          size = is.size;
          size_of_set = λ other among owned versioned. is.size_of_set other (keeps.keys_from other among).0 owned versioned;
          name = is.name;
          whole = λ below. set_still key.owner key.version from.1 (is.whole below);
        })) after.keys (All-contains_itself after.keys)

    pub counters_well : All (IsWellCounter after) after.counters
    counters_well = All-weaker (Contains after.counters) (IsWellCounter after) (λ counter there.
        (let from = keeps.counters_from counter there in
        let is = All-contains (IsWellCounter before) before.counters counter well.counters from.0 in
        record { set = set_still counter.owner counter.version from.1 is.set; version = is.version; number = is.number })) after.counters (All-contains_itself after.counters)

    pub objects_well : All (IsWellObject after) after.objects
    objects_well = All-weaker (Contains after.objects) (IsWellObject after) (λ object there.
        (let from = keeps.objects_from object there in
        let is = All-contains (IsWellObject before) before.objects object well.objects from.0 in
        record { owner = keeps.domains object.owner from.1 is.owner; form = is.form })) after.objects (All-contains_itself after.objects)

-- all of them, where those lists are the same
pub all_owned : (before after : Registry) → ((aid : List ℕ) → IsDomainNamed before aid → IsDomainNamed after aid)
    → before.keys ≡ after.keys → before.counters ≡ after.counters → before.objects ≡ after.objects → KeepsOwned (λ _. Unit {0}) before after
all_owned before after domains keys counters objects = record {
  domains = λ aid stay is. domains aid is;
  keys_there = λ key there stay. subst (λ (ks : List Key). Contains ks key) keys there;
  keys_from = λ key there. (subst (λ (ks : List Key). Contains ks key) (sym keys) there, tt);
  counters_there = λ counter there stay. subst (λ (cs : List Counter). Contains cs counter) counters there;
  counters_from = λ counter there. (subst (λ (cs : List Counter). Contains cs counter) (sym counters) there, tt);
  objects_from = λ object there. (subst (λ (os : List Object). Contains os object) (sym objects) there, tt);
}
