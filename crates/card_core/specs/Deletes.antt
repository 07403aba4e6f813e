-- For the code inside. What is left where a thing is removed, by slots.
use Rattle.std.specs.Prelude.{◌≡◌, ℕ, List, Bool, Option, None, Some, map, slice_set}
use Rattle.card_types.specs.Represents.{thing_in}
use Rattle.card_types.specs.declared.found.Found.{Found}
use Rattle.card_types.specs.declared.tables.Tables.{Tables}
use Rattle.content_rules.specs.DeleteObjectFound.{IsToGoIn}
use Rattle.registry.specs.Removing.{entry_file, key_owner, object_owner, slot_without}

-- what is left in a slot was there, and the things of owners that stay are left
abbrev pub LeavesOwned : {T : Type 0} → (T → ℕ) → (ℕ → Type 0) → List (Option T) → List (Option T) → Type 0
LeavesOwned owner stays before after =
    (slot : ℕ) (thing : _) → (thing_in after slot ≡ Some thing → thing_in before slot ≡ Some thing) × (thing_in before slot ≡ Some thing → stays (owner thing) → thing_in after slot ≡ Some thing)

-- Entries that are not to go are as they were, and so are the keys and data objects of those. No key and no data object is new.
pub record LeavesOthers (before after : Tables) (related : Bool) (thing : Found) : Type 0 where
  pub entries : (slot : ℕ) → (IsToGoIn before related thing slot → ⊥) → thing_in after.entries.items slot ≡ thing_in before.entries.items slot
  pub keys : LeavesOwned key_owner (λ slot. IsToGoIn before related thing slot → ⊥) before.keys.items after.keys.items
  pub objects : LeavesOwned object_owner (λ slot. IsToGoIn before related thing slot → ⊥) before.objects.items after.objects.items

-- the Executable Load File is gone, and so are the entries that come from it
pub record RemovesLoaded (before after : Tables) (slot : ℕ) : Type 0 where
  pub life : after.life ≡ before.life
  pub entries : after.entries.items ≡ map (slot_without entry_file slot) before.entries.items
  pub files : after.files.items ≡ slice_set before.files.items slot None
  pub keys : after.keys.items ≡ before.keys.items
  pub objects : after.objects.items ≡ before.objects.items
