-- What tables say after a change of one key or data object.
use Rattle.std.proofs.Common.{ℕ, ◌<◌, List, length, Option, ◌∙◌}
use Rattle.std.specs.Option.{option_map}
use Rattle.card_types.specs.Registry.{counter_order, key_order, object_order}
use Rattle.card_types.specs.RegistryChange.{IsChanged}
use Rattle.card_types.specs.Registry as registry
use Rattle.card_types.specs.Represents.{Represents, counter_of, entry_of, file_of, keeps_counter, key_of, object_of, thing_in}
use Rattle.card_types.specs.SlotChange.{SetsKey, SetsObject}
use Rattle.card_types.specs.declared.tables.KeyRec.{KeyRec}
use Rattle.card_types.specs.declared.tables.Object.{Object}
use Rattle.card_types.specs.declared.tables.Tables.{Tables}
use Rattle.card_types.proofs.ChangedSlot.{changed_all, changed_slot, same_all, same_slots, shown}
use Rattle.card_types.proofs.KeyNames.{counter_order_total, key_order_total}
use Rattle.card_types.proofs.ObjectNames.{object_order_total}

module _ (page : ℕ → List ℕ) (before after : Tables) (said : registry.Registry) (says : Represents page before said) (slot : ℕ) where
  -- the keys and counters are those with that one change
  pub key_changed : (key : Option KeyRec) (keys : List registry.Key) (counters : List registry.Counter)
      → slot < length before.keys.items → SetsKey before after slot key
      → IsChanged key_order (option_map (key_of before.entries.items) (thing_in before.keys.items slot)) (option_map (key_of before.entries.items) key) said.keys keys
      → IsChanged counter_order (shown (counter_of before.entries.items) keeps_counter (thing_in before.keys.items slot)) (shown (counter_of before.entries.items) keeps_counter key) said.counters counters
      → Represents page after (record said { keys = keys; counters = counters })
  key_changed key keys counters within set changed_keys changed_counters = record {
    life = set.life ∙ says.life;
    entries = same_all (entry_of before.entries.items before.files.items) (entry_of after.entries.items after.files.items) before.entries.items after.entries.items said.entries says.entries set.entries
        (λ other entry at. rw (set.entries, set.files));
    files = same_all (file_of page before.entries.items) (file_of page after.entries.items) before.files.items after.files.items said.files says.files set.files
        (λ other file at. rw set.entries);
    keys = changed_all (key_of before.entries.items) (key_of after.entries.items) before.keys.items after.keys.items slot key key_order key_order_total said.keys keys says.keys within set.keys
        (λ other key at. rw set.entries) changed_keys;
    counters = changed_slot (counter_of before.entries.items) (counter_of after.entries.items) keeps_counter before.keys.items after.keys.items slot key counter_order counter_order_total said.counters counters
        says.counters within set.keys (λ other key at. rw set.entries) changed_counters;
    objects = same_all (object_of before.entries.items) (object_of after.entries.items) before.objects.items after.objects.items said.objects says.objects set.objects
        (λ other object at. rw set.entries);
    ascending = record {
      entries = says.ascending.entries;
      files = says.ascending.files;
      keys = changed_keys.ascending;
      counters = changed_counters.ascending;
      objects = says.ascending.objects;
    };
  }

  -- the objects are those with that one change
  pub object_changed : (object : Option Object) (objects : List registry.Object)
      → slot < length before.objects.items → SetsObject before after slot object
      → IsChanged object_order (option_map (object_of before.entries.items) (thing_in before.objects.items slot)) (option_map (object_of before.entries.items) object) said.objects objects
      → Represents page after (record said { objects = objects })
  object_changed object objects within set changed = record {
    life = set.life ∙ says.life;
    entries = same_all (entry_of before.entries.items before.files.items) (entry_of after.entries.items after.files.items) before.entries.items after.entries.items said.entries says.entries set.entries
        (λ other entry at. rw (set.entries, set.files));
    files = same_all (file_of page before.entries.items) (file_of page after.entries.items) before.files.items after.files.items said.files says.files set.files
        (λ other file at. rw set.entries);
    keys = same_all (key_of before.entries.items) (key_of after.entries.items) before.keys.items after.keys.items said.keys says.keys set.keys
        (λ other key at. rw set.entries);
    counters = same_slots (counter_of before.entries.items) (counter_of after.entries.items) keeps_counter before.keys.items after.keys.items said.counters says.counters set.keys
        (λ other key at. rw set.entries);
    objects = changed_all (object_of before.entries.items) (object_of after.entries.items) before.objects.items after.objects.items slot object object_order object_order_total said.objects objects says.objects within set.objects
        (λ other object at. rw set.entries) changed;
    ascending = record {
      entries = says.ascending.entries;
      files = says.ascending.files;
      keys = says.ascending.keys;
      counters = says.ascending.counters;
      objects = changed.ascending;
    };
  }
