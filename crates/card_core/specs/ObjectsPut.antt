-- For the code inside. Data objects that are put in slots.
use Rattle.std.specs.Prelude.{◌≡◌, ◌⊎◌, ℕ, ◌<◌, List, Option, None, Some, true, false}
use Rattle.card_types.specs.SlotChange.{SetsObject}
use Rattle.card_types.specs.Represents.{thing_in}
use Rattle.card_types.specs.declared.limits.TheConstants.{OBJECTS}
use Rattle.card_types.specs.declared.tables.Object.{Object}
use Rattle.card_types.specs.declared.tables.Tables.{Tables}
use Rattle.policy_slots.specs.ObjectsHeld.{has_object_in, is_tagged_in}

-- the slot has the data object of this domain with this tag, or it is free and there is no such object
pub record IsSlotFor (slots : List (Option Object)) (owner tag slot : ℕ) : Type 0 where
  pub within : slot < OBJECTS
  pub takes : (is_tagged_in owner tag (thing_in slots slot) ≡ true) ⊎ ((thing_in slots slot ≡ None) × (has_object_in slots owner tag ≡ false))

abbrev pub object_with : ℕ → ℕ → List ℕ → Object
object_with owner tag value = record { owner = owner; tag = tag; value = record { items = value } }

-- the object is put in its slot
pub record PutsObject (before after : Tables) (owner tag : ℕ) (value : List ℕ) : Type 0 where
  pub slot : ℕ
  pub is_for : IsSlotFor before.objects.items owner tag slot
  pub set : SetsObject before after slot (Some (object_with owner tag value))
