-- For the code inside. Whether a slot holds a key that goes or stays where those of a domain with a key version number go.
use Rattle.std.specs.Prelude.{ℕ, ◌==◌, ◌&&◌, Bool, false, Option, None, Some, not}
use Rattle.card_types.specs.declared.tables.KeyRec.{KeyRec}
use Rattle.key_rules.specs.Staying.{is_of}

abbrev pub holds_one_of : ℕ → ℕ → Option KeyRec → Bool
holds_one_of owner version None = false
holds_one_of owner version (Some key) = is_of owner version key

abbrev pub holds_staying : ℕ → ℕ → Option KeyRec → Bool
holds_staying owner version None = false
holds_staying owner version (Some key) = not (is_of owner version key)

-- the slot holds a key of the domain that stays
abbrev pub holds_staying_of : ℕ → ℕ → Option KeyRec → Bool
holds_staying_of owner version None = false
holds_staying_of owner version (Some key) = not (is_of owner version key) && key.owner == owner
