-- For the code inside. Why bytes are refused. Each cause says what is whole before it, and so is the first in reading order.
use Rattle.std.specs.Prelude.{◌≡◌, ℕ, ◌+◌, ◌*◌, ◌<◌, ◌≤◌, ◌⊎◌, List, [], ◌∷◌, ◌++◌, length}
use Rattle.bertlv.specs.declared.element.TlvError.{TlvError}
use Rattle.bertlv.specs.declared.element.TlvError.TheVariants.{Short, Tag, Length}
use Rattle.bertlv.specs.Tag.{TagGoesOn, TagBytes}
use Rattle.bertlv.specs.Length.{LengthBytes}

-- the bytes are a tag field, and then rest
abbrev pub AfterTag : (tag : ℕ) (field rest bytes : List ℕ) → Type 0
AfterTag tag field rest bytes = TagBytes tag field × (bytes ≡ field ++ rest)

-- the bytes are a length field, and then rest
abbrev pub AfterLength : (n : ℕ) (field rest bytes : List ℕ) → Type 0
AfterLength n field rest bytes = LengthBytes n field × (bytes ≡ field ++ rest)

-- the bytes end before their tag field does
abbrev pub EndsInTag : List ℕ → Type 0
EndsInTag [] = Unit {0}
EndsInTag (b ∷ []) = TagGoesOn b
EndsInTag (b ∷ c ∷ more) = ⊥

-- byte n can't stand in a tag field there
abbrev pub BadTagAt : ℕ → List ℕ → Type 0
BadTagAt n [] = ⊥
BadTagAt n (b ∷ []) = (n ≡ 0) × (b ≡ 0)
BadTagAt n (b ∷ c ∷ more) = ((n ≡ 0) × (b ≡ 0)) ⊎ ((n ≡ 1) × TagGoesOn b × ((c < 0x1F) ⊎ (0x7F < c)))

-- the bytes end before their length field does
abbrev pub EndsInLength : List ℕ → Type 0
EndsInLength [] = Unit {0}
EndsInLength (a ∷ []) = (a ≡ 0x81) ⊎ (a ≡ 0x82)
EndsInLength (a ∷ b ∷ []) = a ≡ 0x82
EndsInLength (a ∷ b ∷ c ∷ more) = ⊥

-- a first byte that begins no length field
abbrev pub BadFirst : ℕ → Type 0
BadFirst a = (a ≡ 0x80) ⊎ (0x83 ≤ a)

-- the length field has none of the three forms
abbrev pub BadLength : List ℕ → Type 0
BadLength [] = ⊥
BadLength (a ∷ []) = BadFirst a
BadLength (a ∷ b ∷ []) = BadFirst a ⊎ ((a ≡ 0x81) × (b < 0x80))
BadLength (a ∷ b ∷ c ∷ more) =
    BadFirst a ⊎ ((a ≡ 0x81) × (b < 0x80)) ⊎ ((a ≡ 0x82) × (256 * b + c < 0x100))

-- the bytes end before their element does
abbrev pub EndsShort : List ℕ → Type 0
EndsShort bytes = EndsInTag bytes
    ⊎ ((tag : ℕ) × (field rest : List ℕ) × AfterTag tag field rest bytes × EndsInLength rest)
    ⊎ ((tag size : ℕ) × (field length_field rest value : List ℕ) × AfterTag tag field rest bytes
    × AfterLength size length_field value rest × (length value < size))

-- the bytes end, at n, before their element does
abbrev pub EndsShortAt : ℕ → List ℕ → Type 0
EndsShortAt n bytes = (n ≡ length bytes) × EndsShort bytes

-- the length field that begins at n has none of the three forms
abbrev pub BadLengthAt : ℕ → List ℕ → Type 0
BadLengthAt n bytes = (tag : ℕ) × (field rest : List ℕ) × AfterTag tag field rest bytes
    × (n ≡ length field) × BadLength rest

-- the cause and the place of a refusal
abbrev pub Refused : List ℕ → TlvError → Type 0
Refused bytes (Short n) = EndsShortAt n bytes
Refused bytes (Tag n) = BadTagAt n bytes
Refused bytes (Length n) = BadLengthAt n bytes
