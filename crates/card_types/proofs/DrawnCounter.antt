-- What tables say after the counter that a key keeps was drawn.
use Rattle.std.proofs.Common.{◌≡◌, ℕ, zero, suc, ◌<◌, true, List, [], ◌∷◌, length, Option, Some, refl, arith}
use Rattle.std.specs.Option.{option_map}
use Rattle.std.proofs.lemmas.Option.{MatchOption-at_some}
use Rattle.std.proofs.lemmas.List.Sorted.{IsPermutation-refl}
use Rattle.card_types.specs.Registry.{counter_order, key_order}
use Rattle.card_types.specs.RegistryChange.{IsChanged}
use Rattle.card_types.specs.Counters.{HasNextCounter, raised_key, with_counter_raised}
use Rattle.card_types.specs.Registry as registry
use Rattle.card_types.specs.Represents.{Represents, counter_of, domain_aid, keeps_counter, key_of, thing_in}
use Rattle.card_types.specs.SlotChange.{SetsKey}
use Rattle.card_types.specs.Well.{Well}
use Rattle.card_types.specs.declared.limits.TheConstants.{COUNTER_LIMIT}
use Rattle.card_types.specs.declared.tables.KeyRec.{KeyRec}
use Rattle.card_types.specs.declared.tables.Tables.{Tables}
use Rattle.card_types.proofs.ChangedKeys.{key_changed}
use Rattle.card_types.proofs.ChangedSlot.{shown}
use Rattle.card_types.proofs.KeyNames.{counters_shown}
use Rattle.card_types.proofs.RaisedCounter.{counters_replaced, raised_found_well}
use Rattle.card_types.proofs.SetNames.{counter_in_slot}

-- what is so of the key in the slot
pub drawn_next : (keys : List (Option KeyRec)) (slot : ℕ) (key : KeyRec) → thing_in keys slot ≡ Some key → HasNextCounter keys slot
    → (keeps_counter key ≡ true) × (key.counter < COUNTER_LIMIT)
drawn_next keys slot key at has = MatchOption-at_some ⊥ (λ key. (keeps_counter key ≡ true) × (key.counter < COUNTER_LIMIT)) _ at has

-- a slot that holds something is one of the slots
pub held_within : {T : Type 0} (slots : List (Option T)) (slot : ℕ) (thing : T) → thing_in slots slot ≡ Some thing → slot < length slots
held_within [] slot thing at = cc
held_within (s ∷ slots) zero thing at = omega arith
held_within (s ∷ slots) (suc slot) thing at = (let rest = held_within slots slot thing at in omega arith)

module _ (before after : Tables) (slot : ℕ) (key : KeyRec) (at : thing_in before.keys.items slot ≡ Some key)
    (keeps : keeps_counter key ≡ true) (set : SetsKey before after slot (Some (raised_key key))) where
  module _ (page : ℕ → List ℕ) (said : registry.Registry) (says : Represents page before said) where
    pub drawn_says : Represents page after (with_counter_raised said (domain_aid before.entries.items key.owner) key.version)
    drawn_says =
        let owner = domain_aid before.entries.items key.owner in
        let counter = counter_of before.entries.items key in
        let same_keys : IsChanged key_order (option_map (key_of before.entries.items) (thing_in before.keys.items slot)) (Some (key_of before.entries.items key)) said.keys said.keys =
        rw at (record { ascending = says.ascending.keys; same = IsPermutation-refl _ }) in
        let there = (counters_shown page before said says).there slot key at keeps in
        let changed : IsChanged counter_order (shown (counter_of before.entries.items) keeps_counter (thing_in before.keys.items slot))
        (shown (counter_of before.entries.items) keeps_counter (Some (raised_key key))) said.counters (with_counter_raised said owner key.version).counters =
        rw (at, keeps) (counters_replaced said owner key.version counter says.ascending.counters there refl refl) in
        key_changed page before after said says slot (Some (raised_key key)) said.keys (with_counter_raised said owner key.version).counters
        (held_within before.keys.items slot key at) set same_keys changed

    pub drawn_well : key.counter < COUNTER_LIMIT → Well said → Well (with_counter_raised said (domain_aid before.entries.items key.owner) key.version)
    drawn_well below =
        raised_found_well said (domain_aid before.entries.items key.owner) key.version says.ascending.counters (counter_of before.entries.items key)
        (counter_in_slot page before said says slot key at keeps) below
