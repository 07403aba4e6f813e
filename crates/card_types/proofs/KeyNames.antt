-- Keys and counters in slots, and those that the registry has by names.
use Rattle.std.proofs.Common.{◌≡◌, ℕ, Bool, true, ◌&&◌, List, None, Some, refl, ap}
use Rattle.std.specs.Prelude.{find}
use Rattle.std.specs.Cmp.{IsTotalOrder}
use Rattle.std.proofs.lemmas.Cmp.{nat_cmp_total, nat_list_cmp_total, on_total, then_total, tied_itself}
use Rattle.card_types.specs.Registry.{key_order, counter_order}
use Rattle.card_types.specs.Search.{IsLeast, NoneFits}
use Rattle.card_types.specs.Registry as registry
use Rattle.card_types.specs.Represents.{thing_in, Represents, counter_of, domain_aid, keeps_counter, key_of}
use Rattle.card_types.proofs.SameAid.{aid_same_equal}
use Rattle.card_types.specs.declared.tables.KeyRec.{KeyRec}
use Rattle.card_types.specs.declared.tables.Tables.{Tables}
use Rattle.card_types.proofs.Shows.{Shows, least_shown, none_shown, one_slot, shows_kept, shows_used}

pub key_order_total : IsTotalOrder key_order
key_order_total =
    then_total (on_total (λ (key : registry.Key). key.owner) nat_list_cmp_total)
    (then_total (on_total (λ (key : registry.Key). key.version) nat_cmp_total) (on_total (λ (key : registry.Key). key.identifier) nat_cmp_total))

pub counter_order_total : IsTotalOrder counter_order
counter_order_total =
    then_total (on_total (λ (counter : registry.Counter). counter.owner) nat_list_cmp_total) (on_total (λ (counter : registry.Counter). counter.version) nat_cmp_total)

module _ (page : ℕ → List ℕ) (tables : Tables) (said : registry.Registry) (says : Represents page tables said) where
  pub keys_shown : Shows (key_of tables.entries.items) (λ _. true) tables.keys.items said.keys
  keys_shown = shows_used (key_of tables.entries.items) tables.keys.items said.keys says.keys

  pub counters_shown : Shows (counter_of tables.entries.items) keeps_counter tables.keys.items said.counters
  counters_shown = shows_kept (counter_of tables.entries.items) keeps_counter tables.keys.items said.counters says.counters

  -- the first key that fits is the least of the slots
  pub least_key : (p : registry.Key → Bool) (slot : ℕ) (key : KeyRec)
      → IsLeast (λ k. p (key_of tables.entries.items k)) (λ x y. key_order (key_of tables.entries.items x) (key_of tables.entries.items y)) tables.keys.items slot key
      → find p said.keys ≡ Some (key_of tables.entries.items key)
  least_key p slot key is =
      least_shown (key_of tables.entries.items) (λ _. true) tables.keys.items said.keys keys_shown key_order key_order_total says.ascending.keys p slot key
      (record { at = is.at; fitting = is.fitting; least = is.least })

  pub no_key : (p : registry.Key → Bool) → NoneFits (λ k. p (key_of tables.entries.items k)) tables.keys.items → find p said.keys ≡ None
  no_key p none = none_shown (key_of tables.entries.items) (λ _. true) tables.keys.items said.keys keys_shown p none

  -- the first counter that fits is that of the least of the slots whose keys keep one
  pub least_counter : (p : registry.Counter → Bool) (slot : ℕ) (key : KeyRec)
      → IsLeast (λ k. keeps_counter k && p (counter_of tables.entries.items k)) (λ x y. counter_order (counter_of tables.entries.items x) (counter_of tables.entries.items y)) tables.keys.items slot key
      → find p said.counters ≡ Some (counter_of tables.entries.items key)
  least_counter p slot key is =
      least_shown (counter_of tables.entries.items) keeps_counter tables.keys.items said.counters counters_shown counter_order counter_order_total says.ascending.counters
      p slot key is

  pub no_counter : (p : registry.Counter → Bool) → NoneFits (λ k. keeps_counter k && p (counter_of tables.entries.items k)) tables.keys.items
      → find p said.counters ≡ None
  no_counter p none = none_shown (counter_of tables.entries.items) keeps_counter tables.keys.items said.counters counters_shown p none

  -- no two slots have keys of one owner slot, version and identifier
  pub one_key_slot : (a b : ℕ) (x y : KeyRec) → thing_in tables.keys.items a ≡ Some x → thing_in tables.keys.items b ≡ Some y
      → x.owner ≡ y.owner → x.version ≡ y.version → x.identifier ≡ y.identifier → a ≡ b
  one_key_slot a b x y at_a at_b owner version identifier =
      one_slot (key_of tables.entries.items) tables.keys.items said.keys says.keys key_order key_order_total says.ascending.keys a b x y at_a at_b
      (rw (aid_same_equal _ _ (ap (domain_aid tables.entries.items) owner), version, identifier, tied_itself nat_cmp_total y.version, tied_itself nat_cmp_total y.identifier) refl)
