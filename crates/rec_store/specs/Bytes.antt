-- Bytes of any length in a slot: one byte says how many there are, and they stand after it.
use Rattle.std.specs.Prelude.{◌≡◌, ℕ, ◌+◌, List, length, slice_index, slice_range}
use Rattle.card_types.specs.Aid.{IsAid}

pub record HasBytesAt (slot : List ℕ) (at : ℕ) (bytes : List ℕ) : Type 0 where
  pub count : slice_index slot at ≡ length bytes
  pub after : slice_range slot (at + 1) (at + 1 + length bytes) ≡ bytes

-- an AID stands so in byte 1 and those after it
abbrev pub HasAid : List ℕ → List ℕ → Type 0
HasAid slot aid = IsAid aid × HasBytesAt slot 1 aid
