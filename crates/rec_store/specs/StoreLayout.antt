-- The layouts of store pages: their numbers, and which keys each has. What a slot holds is the same in both.
use Rattle.std.specs.Prelude.{◌≡◌, ℕ, List, Option, All, length}
use Rattle.card_types.specs.Represents.{things_in}
use Rattle.card_types.specs.declared.tables.KeyRec.{KeyRec}
use Rattle.rec_store.specs.declared.store_layout.Layout.{Layout}
use Rattle.rec_store.specs.declared.store_layout.Layout.TheVariants.{Second, Third}

abbrev pub layout_code : Layout → ℕ
layout_code Second = 0x02
layout_code Third = 0x03

-- the key has 16 bytes
abbrev pub IsShort : KeyRec → Type 0
IsShort key = length key.bytes.items ≡ 16

-- these are keys of a card in that layout: in layout 02 each has 16 bytes, and layout 03 asks nothing of them
abbrev pub FitsLayout : Layout → List (Option KeyRec) → Type 0
FitsLayout Second keys = All IsShort (things_in keys)
FitsLayout Third keys = Unit
