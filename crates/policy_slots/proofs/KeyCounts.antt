-- How many keys stay where those of a domain with a key version number go, by slots and by names.
use Rattle.std.proofs.Common.{◌≡◌, ℕ, Bool, ◌==◌, List, Some, length, ap, sym, ◌∙◌}
use Rattle.std.specs.Prelude.{Contains, filter, map, not}
use Rattle.std.proofs.lemmas.List.{length-map}
use Rattle.std.proofs.lemmas.List.Sorted.{length_permutation}
use Rattle.card_types.proofs.Members.{filtered}
use Rattle.card_types.proofs.Shows.{held_from_used}
use Rattle.policy_slots.specs.Prelude.{Represents, Well, domain_aid, is_of, key_of, keys_but, same_aid, staying, thing_in, things_in}
use Rattle.card_types.specs.Registry as registry
use Rattle.card_types.specs.declared.tables.Entry.{Entry}
use Rattle.card_types.specs.declared.tables.KeyRec.{KeyRec}
use Rattle.card_types.specs.declared.tables.Tables.{Tables}
use Rattle.key_rules.specs.PutFails as slots
use Rattle.policy_machine.proofs.Filtered.{as_many_pass, map_kept}
use Rattle.policy_slots.proofs.KeysByName.{keys_staying}
use Rattle.policy_slots.proofs.OwnKeys.{own_is}

module _ (page : ℕ → List ℕ) (tables : Tables) (said : registry.Registry) (says : Represents page tables said) (well : Well said)
    (domain : ℕ) (entry : Entry) (at : thing_in tables.entries.items domain ≡ Some entry) (replaced : ℕ) where
  abbrev named : KeyRec → registry.Key
  named key = key_of tables.entries.items key

  -- the keys that stay
  abbrev stay : List KeyRec
  stay = staying domain replaced tables.keys.items

  abbrev stay_named : List registry.Key
  stay_named = keys_but (domain_aid tables.entries.items domain) replaced said.keys

  pub stay_count : length (staying domain replaced tables.keys.items) ≡ length (keys_but (domain_aid tables.entries.items domain) replaced said.keys)
  stay_count =
      sym (length-map stay named) ∙ sym (length_permutation (map named stay) stay_named (keys_staying page tables said says well domain entry at replaced))

  own_alike : (key : KeyRec) → Contains stay key → (key.owner == domain) ≡ same_aid (named key).owner (domain_aid tables.entries.items domain)
  own_alike key there =
      let slot = held_from_used tables.keys.items key (filtered (λ k. not (is_of domain replaced k)) (things_in tables.keys.items) key there).0 in
      own_is page tables said says well domain entry at slot.0 key slot.1

  -- of the keys that stay, the domain's own
  pub own_count : length (slots.keys_of_owner domain (staying domain replaced tables.keys.items))
      ≡ length (filter (λ key. same_aid key.owner (domain_aid tables.entries.items domain)) (keys_but (domain_aid tables.entries.items domain) replaced said.keys))
  own_count =
      let mine : registry.Key → Bool = λ key. same_aid key.owner (domain_aid tables.entries.items domain) in
      sym (length-map (slots.keys_of_owner domain stay) named) ∙ ap length (map_kept named (λ key. key.owner == domain) mine stay own_alike)
      ∙ sym (as_many_pass mine (map named stay) stay_named (keys_staying page tables said says well domain entry at replaced))
