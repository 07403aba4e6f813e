-- Tag fields of BER-TLV data objects (ISO/IEC 7816-4:2013, chapter 6).
use Rattle.std.specs.Prelude.{◌≡◌, ◌≢◌, ℕ, ◌+◌, ◌*◌, ◌/◌, ◌%◌, ◌<◌, ◌≤◌, List, [], ◌∷◌, bit_and, ◌⊎◌}

-- bits 5 to 1 of a first byte are all set: the field goes on
abbrev pub TagGoesOn : ℕ → Type 0
TagGoesOn first = bit_and first 0x1F ≡ 0x1F

-- a second byte that ends the field
abbrev pub EndsTag : ℕ → Type 0
EndsTag second = (0x1F ≤ second) × (second ≤ 0x7F)

-- the field spells the tag: one byte other than 00, or two, the second from 1F to 7F
abbrev pub TagBytes : ℕ → List ℕ → Type 0
TagBytes tag (b ∷ []) = (tag ≡ b) × (b < 256) × (b ≢ 0) × ¬ TagGoesOn b
TagBytes tag (b ∷ c ∷ []) = (tag ≡ 256 * b + c) × (b < 256) × TagGoesOn b × EndsTag c
TagBytes tag field = ⊥

-- the number is a tag: the field of its one byte spells it, or that of its two
abbrev pub IsTag : ℕ → Type 0
IsTag tag = TagBytes tag (tag ∷ []) ⊎ TagBytes tag (tag / 256 ∷ tag % 256 ∷ [])
