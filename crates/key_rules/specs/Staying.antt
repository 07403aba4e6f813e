-- For the code inside. The keys that stay on a card where others are put in the place of some.
use Rattle.std.specs.Prelude.{ℕ, ◌==◌, ◌&&◌, List, Bool, Option, filter, not}
use Rattle.card_types.specs.Represents.{things_in}
use Rattle.card_types.specs.declared.tables.KeyRec.{KeyRec}

-- the key is one of this domain with this key version number; no key is one of key version number 00
abbrev pub is_of : ℕ → ℕ → KeyRec → Bool
is_of owner version key = not (version == 0) && key.owner == owner && key.version == version

-- the keys that stay where those of this domain with this key version number go
abbrev pub staying : ℕ → ℕ → List (Option KeyRec) → List KeyRec
staying owner version slots = filter (λ key. not (is_of owner version key)) (things_in slots)
