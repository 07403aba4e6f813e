-- What the tables of a card say where their key slots alone have changed.
use Rattle.std.proofs.Common.{◌≡◌, ℕ, List, length, ap, ◌∙◌}
use Rattle.std.specs.Prelude.{Option, filter, map}
use Rattle.std.specs.List.Sorted.{IsPermutation, IsStrictlySortedBy}
use Rattle.card_core.specs.Prelude.{AreCards, Contents, Counter, Key, Registry, Represents, SameElse, Well, counter_of, counter_order, keeps_counter, key_of, key_order, things_in, with_keys}
use Rattle.card_types.specs.declared.tables.Object.{Object}
use Rattle.card_core.proofs.Cards.{cards_after}

module _ {F : Type 0} (old new : Contents F) (same : SameElse old new) where
  -- the registry with these keys and sequence counters
  pub keys_said : (page : ℕ → List ℕ) (said : Registry) → Represents page old.tables said → (keys : List Key) (counters : List Counter)
      → IsPermutation (map (key_of old.tables.entries.items) (things_in new.tables.keys.items)) keys
      → IsPermutation (map (counter_of old.tables.entries.items) (filter keeps_counter (things_in new.tables.keys.items))) counters
      → IsStrictlySortedBy key_order keys → IsStrictlySortedBy counter_order counters → Represents page new.tables (with_keys said keys counters)
  keys_said page said says keys counters keys_are counters_are keys_rise counters_rise = record {
    life = same.life ∙ says.life;
    entries = rw (same.entries, same.files) says.entries;
    files = rw (same.entries, same.files) says.files;
    keys = rw same.entries keys_are;
    counters = rw same.entries counters_are;
    objects = rw (same.entries, same.objects) says.objects;
    ascending = record {
      entries = says.ascending.entries;
      files = says.ascending.files;
      keys = keys_rise;
      counters = counters_rise;
      objects = says.ascending.objects;
    };
  }

  -- the tables are a card's where what they say is what a card may have
  pub changed_cards : length new.tables.keys.items ≡ length old.tables.keys.items
      → ((page : ℕ → List ℕ) (said : Registry) → Represents page old.tables said → Well said → (after : Registry) × Represents page new.tables after × Well after)
      → AreCards old.tables → AreCards new.tables
  changed_cards count =
      cards_after old.tables new.tables same.entries same.files count (ap (λ (slots : List (Option Object)). length slots) same.objects)
