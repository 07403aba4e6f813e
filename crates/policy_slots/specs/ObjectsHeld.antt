-- For the code inside. Data objects by the slot of their domain and their tag.
use Rattle.std.specs.Prelude.{ℕ, ◌&&◌, ◌==◌, List, Bool, false, Option, None, Some}
use Rattle.std.specs.List.{list_any}
use Rattle.card_types.specs.declared.tables.Object.{Object}

-- a slot holds the data object of this domain with this tag
abbrev pub is_tagged_in : ℕ → ℕ → Option Object → Bool
is_tagged_in owner tag None = false
is_tagged_in owner tag (Some object) = object.owner == owner && object.tag == tag

-- one of the slots does
abbrev pub has_object_in : List (Option Object) → ℕ → ℕ → Bool
has_object_in slots owner tag = list_any (is_tagged_in owner tag) slots
