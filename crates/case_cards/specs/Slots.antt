-- For the code inside. The slots of the things of a registry, and their bytes.
use Rattle.std.specs.Prelude.{ℕ, ◌+◌, ◌-◌, ◌*◌, ◌/◌, ◌%◌, ◌^◌, List, ◌∷◌, ◌++◌, nat_le, if◌then◌else◌, length, slice_index, slice_set, take}
use Rattle.std.specs.Int.RustNames.{bit_or}
use Rattle.case_cards.specs.declared.layout.slot.Slots.{Slots}
use Rattle.case_cards.specs.declared.layout.slot.TheConstants.{ZEROS}

-- where the slot with this number begins
abbrev pub slot_start : Slots → ℕ → ℕ
slot_start slots number = number * slots.size + slots.first

-- the bytes, and zeros up to this count
abbrev pub with_zeros : ℕ → List ℕ → List ℕ
with_zeros count bytes = bytes ++ take (count - length bytes) ZEROS

-- the length of a name, and the name in 16 bytes
abbrev pub name_field : List ℕ → List ℕ
name_field name = length name ∷ with_zeros 16 name

-- A file's slot with its load page `index` named by its number among the load pages: the low eight bits stand in byte 64 + index,
-- and the ninth in a bit map from byte 192 on, the highest bit of a byte first. A ninth bit that is set stays.
abbrev pub with_load_page : List ℕ → ℕ → ℕ → List ℕ
with_load_page slot index number =
    let low = slice_set slot (64 + index) (number % 256) in
    let place = 192 + index / 8 in
    if nat_le 256 number then slice_set low place (bit_or (slice_index low place) (128 / 2 ^ (index % 8))) else low
