-- What the tables of a card say after keys were put.
use Rattle.std.proofs.Common.{◌≡◌, ◌≢◌, inl, inr, ℕ, ◌+◌, ◌<◌, ◌≤◌, true, false, ◌==◌, ◌++◌, List, [], ◌∷◌, Option, Some, length, map, refl, ap, sym, subst, ◌∙◌, arith}
use Rattle.std.specs.Prelude.{filter}
use Rattle.std.specs.List.Sorted.{IsPermutation}
use Rattle.std.proofs.lemmas.Bool.{cases_lt, false_from_ne_true, le-ltb, lt-ltb, ne_eqb}
use Rattle.std.proofs.lemmas.List.{map-append}
use Rattle.std.proofs.lemmas.List.Elements.{filter-append}
use Rattle.std.proofs.lemmas.List.Sorted.{IsPermutation-append_right, IsPermutation-map, IsPermutation-trans}
use Rattle.card_types.proofs.ChangedSlot.{same_all}
use Rattle.card_core.specs.Prelude.{AreCards, IsArranged, IsDomainNamed, NoneHolds, PutFails, Puts, Represents, Well, counter_of, counter_order, counters_but, counters_from, domain_aid, entry_of, file_of, has, has_key_version, is_domain_in, keeps_counter, key_of, key_order, keys_but, keys_from, new_key, object_of, same_aid, security_domain, staying, thing_in, things_in, with_keys}
use Rattle.card_types.specs.Registry as registry
use Rattle.card_types.specs.declared.limits.TheConstants.{DOMAIN_KEYS, KEYS}
use Rattle.card_types.specs.declared.tables.Entry.{Entry}
use Rattle.card_types.specs.declared.tables.KeyRec.{KeyRec}
use Rattle.card_types.specs.declared.tables.Tables.{Tables}
use Rattle.key_rules.specs.declared.refusal.PutRefusal.TheVariants.{Taken, Full}
use Rattle.policy_machine.proofs.Filtered.{filter_same}
use Rattle.policy_machine.proofs.KeysArranged.{counters_arranged, keys_arranged}
use Rattle.policy_machine.proofs.PutKeyKeeps.{AreOfVersion, HaveLengths, new_keys_ascending, new_keys_well}
use Rattle.policy_slots.proofs.KeyCounts.{own_count, stay_count}
use Rattle.policy_slots.proofs.KeysByName.{counters_staying, has_version_by_name, keys_staying}
use Rattle.card_types.specs.declared.tables.Object.{Object}
use Rattle.card_core.proofs.Cards.{cards_after}
use Rattle.card_core.proofs.SomeAdmitted.{domain_named, domain_there}

module _ (domain version : ℕ) where
  -- the keys that are put, with key identifiers from the one given on
  abbrev pub slot_keys : ℕ → List (List ℕ) → List KeyRec
  slot_keys identifier [] = []
  slot_keys identifier (bytes ∷ keys) = new_key domain version identifier bytes ∷ slot_keys (identifier + 1) keys

  module _ (entries : List (Option Entry)) where
    keys_named : (identifier : ℕ) (keys : List (List ℕ)) → map (key_of entries) (slot_keys identifier keys) ≡ keys_from (domain_aid entries domain) version identifier keys
    keys_named identifier [] = refl
    keys_named identifier (bytes ∷ keys) =
        ap (λ (ks : List registry.Key). key_of entries (new_key domain version identifier bytes) ∷ ks) (keys_named (identifier + 1) keys)

    none_keeps : (identifier : ℕ) (keys : List (List ℕ)) → 1 < identifier → filter keeps_counter (slot_keys identifier keys) ≡ []
    none_keeps identifier [] above = refl
    none_keeps identifier (bytes ∷ keys) above =
        let other : (identifier == 1) ≡ false = ne_eqb identifier 1 (λ same. omega (arith, same, above)) in
        rw other (none_keeps (identifier + 1) keys (omega arith))

    -- the first of them keeps the counter of a key set
    counters_named : (bytes : List ℕ) (keys : List (List ℕ))
        → map (counter_of entries) (filter keeps_counter (slot_keys 1 (bytes ∷ keys))) ≡ counters_from (domain_aid entries domain) version
    counters_named bytes keys =
        let others = none_keeps 2 keys (omega arith) in
        elim (cases_lt version 0x70) [
          | inl below ↦ (let low = lt-ltb version 0x70 below in rw (low, others) refl)
          | inr above ↦ (let high = le-ltb version 0x70 above in rw (high, others) refl)
        ]

some_keys : (version : ℕ) (keys : List (List ℕ)) → AreOfVersion version keys → (bytes : List ℕ) × (rest : List (List ℕ)) × (keys ≡ bytes ∷ rest)
some_keys version (bytes ∷ rest) are = (bytes, rest, refl)
some_keys version [] (inl set) = (let count = set.2 in absurd (omega arith))
some_keys version [] (inr one) = (let count = one.1 in absurd (omega arith))

-- keys that are put as slices of what holds them
pub puts_lent : (domain replaced version : ℕ) (old new : List (Option KeyRec)) (lent keys : List (List ℕ)) → lent ≡ keys
    → Puts domain replaced (slot_keys domain version 1 lent) old new → Puts domain replaced (slot_keys domain version 1 keys) old new
puts_lent domain replaced version old new lent keys same puts =
    subst (λ (ks : List (List ℕ)). Puts domain replaced (slot_keys domain version 1 ks) old new) same puts

module _ (old new : Tables) (life : new.life ≡ old.life) (entries : new.entries.items ≡ old.entries.items) (files : new.files.items ≡ old.files.items)
    (objects : new.objects.items ≡ old.objects.items) (domain replaced version : ℕ) (bytes : List (List ℕ))
    (puts : Puts domain replaced (slot_keys domain version 1 bytes) old.keys.items new.keys.items) (sizes : HaveLengths bytes) (versioned : AreOfVersion version bytes)
    (none : NoneHolds (PutFails domain replaced version (length bytes) old.keys.items)) (is_domain : is_domain_in old.entries.items domain ≡ true) where
  module _ (page : ℕ → List ℕ) (said : registry.Registry) (says : Represents page old said) (well : Well said) where
    abbrev aid : List ℕ
    aid = domain_aid old.entries.items domain

    there : (entry : Entry) × (thing_in old.entries.items domain ≡ Some entry) × (has security_domain entry.privileges ≡ true)
    there = domain_there old.entries.items domain is_domain

    is_named : IsDomainNamed said aid
    is_named = domain_named page old said says well domain is_domain

    untaken : (version ≢ replaced) × (has_key_version said aid version ≡ true) → ⊥
    untaken taken = none Taken (taken.0, has_version_by_name page old said says well domain there.0 there.1 version ∙ taken.1)

    free : version ≢ replaced → has_key_version said aid version ≡ false
    free differs = false_from_ne_true (has_key_version said aid version) (λ is. untaken (differs, is))

    room : length (keys_but aid replaced said.keys) + length bytes ≤ KEYS
    room =
        let count = stay_count page old said says well domain there.0 there.1 replaced in
        elim (cases_lt KEYS (length (staying domain replaced old.keys.items) + length bytes)) [
          | inl full ↦ absurd (none Full (inl full))
          | inr fits ↦ omega arith
        ]

    own_room : length (filter (λ key. same_aid key.owner aid) (keys_but aid replaced said.keys)) + length bytes ≤ DOMAIN_KEYS
    own_room =
        let count = own_count page old said says well domain there.0 there.1 replaced in
        elim (cases_lt DOMAIN_KEYS (length (filter (λ key. key.owner == domain) (staying domain replaced old.keys.items)) + length bytes)) [
          | inl full ↦ absurd (none Full (inr full))
          | inr fits ↦ omega arith
        ]

    pub put_keys : (keys : List registry.Key) × IsArranged key_order (keys_from (domain_aid old.entries.items domain) version 1 bytes ++ keys_but (domain_aid old.entries.items domain) replaced said.keys) keys
    put_keys = keys_arranged said well says.ascending aid replaced version free bytes

    pub put_counters : (counters : List registry.Counter)
        × IsArranged counter_order (counters_from (domain_aid old.entries.items domain) version ++ counters_but (domain_aid old.entries.items domain) replaced said.counters) counters
    put_counters = counters_arranged said well says.ascending aid replaced version free

    -- the registry that the tables say then
    abbrev pub after : registry.Registry
    after = with_keys said put_keys.0 put_counters.0

    abbrev stay : List KeyRec
    stay = staying domain replaced old.keys.items

    abbrev added : List KeyRec
    added = slot_keys domain version 1 bytes

    says_keys : IsPermutation (map (key_of old.entries.items) (things_in new.keys.items)) put_keys.0
    says_keys =
        let named = key_of old.entries.items in
        let moved = IsPermutation-map named (things_in new.keys.items) (added ++ stay) puts.keys in
        let parts : map named (added ++ stay) ≡ keys_from aid version 1 bytes ++ map named stay =
        map-append named added stay ∙ ap (λ (ks : List registry.Key). ks ++ map named stay) (keys_named domain version old.entries.items 1 bytes) in
        let kept = IsPermutation-append_right (keys_from aid version 1 bytes) (map named stay) (keys_but aid replaced said.keys)
        (keys_staying page old said says well domain there.0 there.1 replaced) in
        IsPermutation-trans _ (keys_from aid version 1 bytes ++ map named stay) put_keys.0 (subst (λ (ks : List registry.Key). IsPermutation (map named (things_in new.keys.items)) ks) parts moved)
        (IsPermutation-trans _ _ put_keys.0 kept put_keys.1.same)

    begun_named : map (counter_of old.entries.items) (filter keeps_counter added) ≡ counters_from aid version
    begun_named =
        let some = some_keys version bytes versioned in
        ap (λ (keys : List (List ℕ)). map (counter_of old.entries.items) (filter keeps_counter (slot_keys domain version 1 keys))) some.2
        ∙ counters_named domain version old.entries.items some.0 some.1

    says_counters : IsPermutation (map (counter_of old.entries.items) (filter keeps_counter (things_in new.keys.items))) put_counters.0
    says_counters =
        let named = counter_of old.entries.items in
        let keeping = filter_same keeps_counter (things_in new.keys.items) (added ++ stay) puts.keys in
        let moved = IsPermutation-map named _ _ keeping in
        let parts : map named (filter keeps_counter (added ++ stay)) ≡ counters_from aid version ++ map named (filter keeps_counter stay) =
        ap (map named) (filter-append keeps_counter added stay) ∙ map-append named (filter keeps_counter added) (filter keeps_counter stay)
        ∙ ap (λ (cs : List registry.Counter). cs ++ map named (filter keeps_counter stay)) begun_named in
        let kept = IsPermutation-append_right (counters_from aid version) (map named (filter keeps_counter stay)) (counters_but aid replaced said.counters)
        (counters_staying page old said says well domain there.0 there.1 replaced) in
        IsPermutation-trans _ (counters_from aid version ++ map named (filter keeps_counter stay)) put_counters.0
        (subst (λ (cs : List registry.Counter). IsPermutation (map named (filter keeps_counter (things_in new.keys.items))) cs) parts moved)
        (IsPermutation-trans _ _ put_counters.0 kept put_counters.1.same)

    pub says_after : Represents page new after
    says_after = record {
      life = life ∙ says.life;
      entries = same_all (entry_of old.entries.items old.files.items) (entry_of new.entries.items new.files.items) old.entries.items new.entries.items said.entries says.entries entries
          (λ other entry at. rw (entries, files));
      files = same_all (file_of page old.entries.items) (file_of page new.entries.items) old.files.items new.files.items said.files says.files files
          (λ other file at. rw entries);
      keys = subst (λ (es : List (Option Entry)). IsPermutation (map (key_of es) (things_in new.keys.items)) put_keys.0) (sym entries) says_keys;
      counters = subst (λ (es : List (Option Entry)). IsPermutation (map (counter_of es) (filter keeps_counter (things_in new.keys.items))) put_counters.0) (sym entries) says_counters;
      objects = same_all (object_of old.entries.items) (object_of new.entries.items) old.objects.items new.objects.items said.objects says.objects objects
          (λ other object at. rw entries);
      ascending = new_keys_ascending said well aid is_named replaced version bytes sizes versioned untaken put_keys.0 put_counters.0 put_keys.1 put_counters.1 room own_room says.ascending;
    }

    pub well_after : Well after
    well_after = new_keys_well said well aid is_named replaced version bytes sizes versioned untaken put_keys.0 put_counters.0 put_keys.1 put_counters.1 room own_room

  -- they are a card's
  pub put_cards : AreCards old → AreCards new
  put_cards =
      cards_after old new entries files puts.count (ap (λ (slots : List (Option Object)). length slots) objects)
      (λ page said says well. (after page said says well, says_after page said says well, well_after page said says well))
