-- The registry with keys put in the place of those of a domain with a key version number, or none.
use Rattle.std.proofs.Common.{◌≡◌, ◌⊎◌, inl, inr, ℕ, ◌+◌, ◌≤◌, Bool, false, ◌==◌, ◌&&◌, ◌++◌, List, length, ap, subst, sym, ◌∙◌, arith, length-append}
use Rattle.std.specs.Prelude.{Contains, filter, not}
use Rattle.std.specs.List.Sorted.{IsPermutation}
use Rattle.std.proofs.lemmas.Bool.{cases_Bool, not-true, not_from_false}
use Rattle.std.proofs.lemmas.List.Elements.{All-contains, All-contains_itself, All-weaker, Contains-append_cases, Contains-append_left, Contains-append_right, filter-append}
use Rattle.std.proofs.lemmas.List.Sorted.{Contains-permutation, IsPermutation-sym, length_permutation}
use Rattle.card_types.proofs.Members.{contains_filter, filtered}
use Rattle.card_types.proofs.SameAid.{same_aid_decides}
use Rattle.card_types.proofs.SetMembers.{HasCounterOf, HasKeyNamed, whole_still}
use Rattle.policy_machine.specs.Prelude.{Counter, Entry, HasLengthOfSet, IsWellCounter, IsWellEntry, IsWellFile, IsWellKey, IsWellObject, IsWholeSet, Key, LoadFile, Object, Registry, Well, counters_but, is_counter_numbered, is_key_numbered, keys_but, keys_of, same_aid, with_keys}
use Rattle.card_types.specs.declared.limits.TheConstants.{DOMAIN_KEYS, KEYS}
use Rattle.policy_machine.proofs.Filtered.{as_many_pass, fewer_pass, most_pass, none_pass}

-- things that are put in the place of those that go
module _ {X : Type 0} (goes : X → Bool) (things added put : List X) (is : IsPermutation (added ++ filter (λ x. not (goes x)) things) put) where
  abbrev kept : List X
  kept = filter (λ x. not (goes x)) things

  new_there : (x : X) → Contains added x → Contains put x
  new_there x there = Contains-permutation (added ++ kept) put x is (Contains-append_left added kept x there)

  still_there : (x : X) → Contains things x → goes x ≡ false → Contains put x
  still_there x there stays =
      Contains-permutation (added ++ kept) put x is
      (Contains-append_right added kept x (contains_filter (λ y. not (goes y)) things x there (not_from_false (goes x) stays)))

  came_from : (x : X) → Contains put x → Contains added x ⊎ (Contains things x × (goes x ≡ false))
  came_from x there =
      elim (Contains-append_cases added kept x (Contains-permutation put (added ++ kept) x (IsPermutation-sym (added ++ kept) put is) there)) [
        | inl new ↦ inl new
        | inr stays ↦ (let was = filtered (λ y. not (goes y)) things x stays in inr (was.0, not-true (goes x) was.1))
      ]

module _ (registry : Registry) (owner : List ℕ) (replaced : ℕ) (added : List Key) (new_counters : List Counter) (keys : List Key) (counters : List Counter)
    (keys_put : IsPermutation (added ++ keys_but owner replaced registry.keys) keys)
    (counters_put : IsPermutation (new_counters ++ counters_but owner replaced registry.counters) counters) where
  abbrev pub after : Registry
  after = with_keys registry keys counters

  pub key_added : (key : Key) → Contains added key → Contains keys key
  key_added = new_there (is_key_numbered owner replaced) registry.keys added keys keys_put

  key_from : (key : Key) → Contains keys key → Contains added key ⊎ (Contains registry.keys key × (is_key_numbered owner replaced key ≡ false))
  key_from = came_from (is_key_numbered owner replaced) registry.keys added keys keys_put

  -- the keys that are put have other key version numbers than their owner's that stay
  abbrev pub AreApart : Type 0
  AreApart = (key other : Key) → Contains added key → Contains registry.keys other → is_key_numbered owner replaced other ≡ false
      → other.owner ≡ key.owner → other.version ≡ key.version → ⊥

  pub length_of_added : AreApart → (key : Key) → Contains added key → ((other : Key) → Contains added other → length other.bytes ≡ length key.bytes)
      → HasLengthOfSet keys key
  length_of_added apart key there alike other among owned versioned = elim (key_from other among) [
    | inl new ↦ alike other new
    | inr stays ↦ absurd (apart key other there stays.0 stays.1 owned versioned)
  ]

  pub counter_begun : (counter : Counter) → Contains new_counters counter → Contains counters counter
  counter_begun = new_there (is_counter_numbered owner replaced) registry.counters new_counters counters counters_put

  -- a key set that is not the replaced one stays whole
  module _ (domain : List ℕ) (version : ℕ) (other : (same_aid domain owner && version == replaced) ≡ false) where
    stays : (holder : List ℕ) (numbered : ℕ) → holder ≡ domain → numbered ≡ version → (same_aid holder owner && numbered == replaced) ≡ false
    stays holder numbered owned versioned =
        ap (λ (o : List ℕ). same_aid o owner && numbered == replaced) owned ∙ ap (λ (v : ℕ). same_aid domain owner && v == replaced) versioned ∙ other

    has_key_still : (identifier : ℕ) → HasKeyNamed registry domain version identifier → HasKeyNamed after domain version identifier
    has_key_still identifier has =
        let there = still_there (is_key_numbered owner replaced) registry.keys added keys keys_put has.key has.is_there
        (stays has.key.owner has.key.version has.owner_is has.version_is) in
        record { key = has.key; is_there = there; owner_is = has.owner_is; version_is = has.version_is; identifier_is = has.identifier_is }

    has_counter_still : HasCounterOf registry domain version → HasCounterOf after domain version
    has_counter_still has =
        let there = still_there (is_counter_numbered owner replaced) registry.counters new_counters counters counters_put has.counter has.is_there
        (stays has.counter.owner has.counter.version has.owner_is has.version_is) in
        record { counter = has.counter; is_there = there; owner_is = has.owner_is; version_is = has.version_is }

    set_still : IsWholeSet registry domain version → IsWholeSet after domain version
    set_still set = whole_still registry after domain version has_key_still has_counter_still set

  still_well_entry : (entry : Entry) → IsWellEntry registry entry → IsWellEntry after entry
  still_well_entry entry is = record { proper = is.proper; domain = is.domain; line = is.line; loaded = is.loaded }

  still_well_file : (file : LoadFile) → IsWellFile registry file → IsWellFile after file
  still_well_file file is = record { aid = is.aid; apart = is.apart; domain = is.domain; size = is.size }

  still_well_object : (object : Object) → IsWellObject registry object → IsWellObject after object
  still_well_object object is = record { owner = is.owner; form = is.form }

  still_well_key : AreApart → (key : Key) → Contains registry.keys key → is_key_numbered owner replaced key ≡ false → IsWellKey registry key → IsWellKey after key
  still_well_key apart key there stays is = record {
    owner = is.owner;
    size = is.size;
    size_of_set = λ other among owned versioned. elim (key_from other among) [
      | inl new ↦ absurd (apart other key new there stays (sym owned) (sym versioned))
      | inr kept ↦ is.size_of_set other kept.0 owned versioned
    ];
    name = is.name;
    whole = λ below. set_still key.owner key.version stays (is.whole below);
  }

  still_well_counter : (counter : Counter) → is_counter_numbered owner replaced counter ≡ false → IsWellCounter registry counter → IsWellCounter after counter
  still_well_counter counter other is = record { set = set_still counter.owner counter.version other is.set; version = is.version; number = is.number }

  -- with room for well keys of the domain, and for its well counters
  module _ (well : Well registry) (apart : AreApart) (keys_well : (key : Key) → Contains added key → IsWellKey after key)
      (counters_well : (counter : Counter) → Contains new_counters counter → IsWellCounter after counter)
      (owned : (key : Key) → Contains added key → key.owner ≡ owner)
      (room : length (keys_but owner replaced registry.keys) + length added ≤ KEYS)
      (own_room : length (filter (λ key. same_aid key.owner owner) (keys_but owner replaced registry.keys)) + length added ≤ DOMAIN_KEYS) where
    few_keys : length keys ≤ KEYS
    few_keys =
        omega (arith, length_permutation (added ++ keys_but owner replaced registry.keys) keys keys_put, length-append added (keys_but owner replaced registry.keys))

    few_keys_each : (domain : List ℕ) → length (keys_of after domain) ≤ DOMAIN_KEYS
    few_keys_each domain =
        let mine : Key → Bool = λ key. same_aid key.owner domain in
        let count = as_many_pass mine (added ++ keys_but owner replaced registry.keys) keys keys_put in
        let parts = ap length (filter-append mine added (keys_but owner replaced registry.keys)) in
        let sum = length-append (filter mine added) (filter mine (keys_but owner replaced registry.keys)) in
        elim (cases_Bool (same_aid owner domain)) [
          | inl same ↦
              (let alike = (same_aid_decides owner domain).0 same in
              let own : length (filter mine (keys_but owner replaced registry.keys)) + length added ≤ DOMAIN_KEYS =
              subst (λ (d : List ℕ). length (filter (λ key. same_aid key.owner d) (keys_but owner replaced registry.keys)) + length added ≤ DOMAIN_KEYS) alike own_room in
              omega (arith, most_pass mine added))
          | inr differs ↦
              (let none = ap length (none_pass mine added (λ key there. ap (λ (o : List ℕ). same_aid o domain) (owned key there) ∙ differs)) in
              let before = well.few_keys_each domain in
              omega (arith, fewer_pass mine (λ k. not (is_key_numbered owner replaced k)) registry.keys))
        ]

    pub put_well : Well after
    put_well = record {
      few_entries = well.few_entries;
      few_files = well.few_files;
      few_keys = few_keys;
      few_objects = well.few_objects;
      few_pages = well.few_pages;
      few_keys_each = few_keys_each;
      issuer = well.issuer;
      factory_file = well.factory_file;
      entries = All-weaker (IsWellEntry registry) (IsWellEntry after) still_well_entry registry.entries well.entries;
      files = All-weaker (IsWellFile registry) (IsWellFile after) still_well_file registry.files well.files;
      keys = All-weaker (Contains keys) (IsWellKey after)
          (λ key there. elim (key_from key there) [
            | inl new ↦ keys_well key new
            | inr stays ↦ still_well_key apart key stays.0 stays.1 (All-contains (IsWellKey registry) registry.keys key well.keys stays.0)
          ])
          keys (All-contains_itself keys);
      counters = All-weaker (Contains counters) (IsWellCounter after)
          (λ counter there. elim (came_from (is_counter_numbered owner replaced) registry.counters new_counters counters counters_put counter there) [
            | inl new ↦ counters_well counter new
            | inr stays ↦ still_well_counter counter stays.1 (All-contains (IsWellCounter registry) registry.counters counter well.counters stays.0)
          ])
          counters (All-contains_itself counters);
      objects = All-weaker (IsWellObject registry) (IsWellObject after) still_well_object registry.objects well.objects;
    }
