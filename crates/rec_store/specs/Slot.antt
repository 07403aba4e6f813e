-- What a slot holds, by its mark in its first byte: 01 where it is used, and 00 where it is free.
use Rattle.std.specs.Prelude.{◌≡◌, ℕ, List, Option, None, Some, slice_index}

abbrev pub SlotHolds : {T : Type 0} → (List ℕ → T → Type 0) → List ℕ → Option T → Type 0
SlotHolds is_in slot None = slice_index slot 0 ≡ 0x00
SlotHolds is_in slot (Some thing) = is_in slot thing
