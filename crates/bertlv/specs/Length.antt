-- Length fields of BER-TLV data objects (ISO/IEC 7816-4:2013, chapter 6).
use Rattle.std.specs.Prelude.{◌≡◌, ℕ, ◌+◌, ◌*◌, ◌<◌, ◌≤◌, List, [], ◌∷◌}

-- the field spells the number: the shortest of the forms of one, two and three bytes
abbrev pub LengthBytes : ℕ → List ℕ → Type 0
LengthBytes n (b ∷ []) = (n ≡ b) × (b < 0x80)
LengthBytes n (a ∷ b ∷ []) = (a ≡ 0x81) × (n ≡ b) × (0x80 ≤ b) × (b < 256)
LengthBytes n (a ∷ b ∷ c ∷ []) = (a ≡ 0x82) × (n ≡ 256 * b + c) × (0x100 ≤ n) × (b < 256) × (c < 256)
LengthBytes n field = ⊥
