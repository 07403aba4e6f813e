-- The keys of a domain with one key version number, in slots and by names.
use Rattle.std.proofs.Common.{◌≡◌, ◌≤◌, inl, inr, ℕ, Bool, ◌&&◌, List, Some, refl, ap, sym, subst, ◌∙◌, arith}
use Rattle.std.specs.Prelude.{Contains, filter, map, not, ◌==◌}
use Rattle.std.specs.Cmp.{both_ways}
use Rattle.std.specs.List.Sorted.{IsPermutation}
use Rattle.std.proofs.lemmas.Bool.{and_right, cases_eq, eq-eqb, ne_eqb}
use Rattle.std.proofs.lemmas.List.Elements.{All-contains}
use Rattle.card_types.proofs.KeyNames.{keys_shown}
use Rattle.card_types.proofs.Members.{filtered}
use Rattle.card_types.proofs.Shows.{held_from_used, used_from_held}
use Rattle.policy_slots.specs.Prelude.{IsKeyName, IsWellKey, Represents, Well, counter_of, counters_but, domain_aid, has_key_version, is_counter_numbered, is_key_numbered, is_of, keeps_counter, key_of, keys_but, same_aid, staying, thing_in, things_in}
use Rattle.card_types.specs.Registry as registry
use Rattle.card_types.specs.declared.tables.Entry.{Entry}
use Rattle.card_types.specs.declared.tables.KeyRec.{KeyRec}
use Rattle.card_types.specs.declared.tables.Tables.{Tables}
use Rattle.key_rules.specs.PutFails as slots
use Rattle.policy_machine.proofs.Filtered.{any_there, filter_same, filters_swap, map_kept, there_any}
use Rattle.policy_slots.proofs.OwnKeys.{own_is}

-- a key version number is 01 at least
least_version : (version identifier : ℕ) → IsKeyName version identifier → 1 ≤ version
least_version version identifier (inl set) = set.0
least_version version identifier (inr (inl token, first)) = omega arith
least_version version identifier (inr (inr receipt, first)) = omega arith

pub least_in_slot : (page : ℕ → List ℕ) (tables : Tables) (said : registry.Registry) → Represents page tables said → Well said
    → (slot : ℕ) (key : KeyRec) → thing_in tables.keys.items slot ≡ Some key → 1 ≤ key.version
least_in_slot page tables said says well slot key here =
    let among = (keys_shown page tables said says).there slot key here refl in
    least_version key.version key.identifier (All-contains (IsWellKey said) said.keys (key_of tables.entries.items key) well.keys among).name

module _ (page : ℕ → List ℕ) (tables : Tables) (said : registry.Registry) (says : Represents page tables said) (well : Well said)
    (domain : ℕ) (entry : Entry) (at : thing_in tables.entries.items domain ≡ Some entry) (version : ℕ) where
  abbrev aid : List ℕ
  aid = domain_aid tables.entries.items domain

  abbrev named : KeyRec → registry.Key
  named key = key_of tables.entries.items key

  -- a key is one of them by its slot exactly where it is by its name
  goes_is : (slot : ℕ) (key : KeyRec) → thing_in tables.keys.items slot ≡ Some key → is_of domain version key ≡ is_key_numbered aid version (named key)
  goes_is slot key here = elim (cases_eq version 0) [
    | inl none ↦
        (let least = least_in_slot page tables said says well slot key here in
        ap (λ (b : Bool). (not b && key.owner == domain) && key.version == version) (eq-eqb version 0 none)
        ∙ sym (and_right (same_aid (named key).owner aid) (key.version == version) (ne_eqb key.version version (λ same. omega (arith, least, none, same)))))
    | inr some ↦
        ap (λ (b : Bool). (not b && key.owner == domain) && key.version == version) (ne_eqb version 0 some)
        ∙ ap (λ (b : Bool). b && key.version == version) (own_is page tables said says well domain entry at slot key here)
  ]

  goes_used : (key : KeyRec) → Contains (things_in tables.keys.items) key → is_of domain version key ≡ is_key_numbered aid version (named key)
  goes_used key there = (let at = held_from_used tables.keys.items key there in goes_is at.0 key at.1)

  pub has_version_by_name : slots.has_version domain version tables.keys.items ≡ has_key_version said (domain_aid tables.entries.items domain) version
  has_version_by_name =
      both_ways (slots.has_version domain version tables.keys.items) (has_key_version said aid version)
      (λ has. (let some = there_any (is_of domain version) (things_in tables.keys.items) has in
      let slot = held_from_used tables.keys.items some.0 some.1 in
      any_there (is_key_numbered aid version) said.keys (named some.0) ((keys_shown page tables said says).there slot.0 some.0 slot.1 refl)
      (sym (goes_is slot.0 some.0 slot.1) ∙ some.2)))
      (λ has. (let some = there_any (is_key_numbered aid version) said.keys has in
      let from = (keys_shown page tables said says).from some.0 some.1 in
      any_there (is_of domain version) (things_in tables.keys.items) from.1 (used_from_held tables.keys.items from.0 from.1 from.2)
      (goes_is from.0 from.1 from.2 ∙ ap (is_key_numbered aid version) from.4 ∙ some.2)))

  -- the keys that stay
  pub keys_staying : IsPermutation (map (key_of tables.entries.items) (staying domain version tables.keys.items))
      (keys_but (domain_aid tables.entries.items domain) version said.keys)
  keys_staying =
      let stay : registry.Key → Bool = λ key. not (is_key_numbered aid version key) in
      let kept = map_kept named (λ key. not (is_of domain version key)) stay (things_in tables.keys.items) (λ key there. ap not (goes_used key there)) in
      subst (λ (keys : List registry.Key). IsPermutation keys (keys_but aid version said.keys)) (sym kept)
      (filter_same stay (map named (things_in tables.keys.items)) said.keys says.keys)

  -- the sequence counters that the keys that stay keep
  pub counters_staying : IsPermutation (map (counter_of tables.entries.items) (filter keeps_counter (staying domain version tables.keys.items)))
      (counters_but (domain_aid tables.entries.items domain) version said.counters)
  counters_staying =
      let stay : registry.Counter → Bool = λ counter. not (is_counter_numbered aid version counter) in
      let stays : KeyRec → Bool = λ key. not (is_of domain version key) in
      let keeping = filter keeps_counter (things_in tables.keys.items) in
      let kept : map (counter_of tables.entries.items) (filter stays keeping) ≡ filter stay (map (counter_of tables.entries.items) keeping) =
      map_kept (counter_of tables.entries.items) stays stay keeping (λ key there. ap not (goes_used key (kept_used key there))) in
      subst (λ (counters : List registry.Counter). IsPermutation counters (counters_but aid version said.counters))
      (sym (ap (map (counter_of tables.entries.items)) (filters_swap keeps_counter stays (things_in tables.keys.items)) ∙ kept))
      (filter_same stay (map (counter_of tables.entries.items) keeping) said.counters says.counters)
    where
      kept_used : (key : KeyRec) → Contains (filter keeps_counter (things_in tables.keys.items)) key → Contains (things_in tables.keys.items) key
      kept_used key there = (filtered keeps_counter (things_in tables.keys.items) key there).0
