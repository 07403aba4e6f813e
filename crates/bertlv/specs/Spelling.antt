-- BER-TLV data objects (ISO/IEC 7816-4:2013, chapter 6).
use Rattle.std.specs.Prelude.{◌≡◌, ℕ, List, [], ◌∷◌, ◌++◌, length}
use Rattle.bertlv.specs.Tag.{TagBytes}
use Rattle.bertlv.specs.Length.{LengthBytes}

-- the bytes are the element of this tag and value: a tag field, a length field and the value
pub record Spelling (tag : ℕ) (value bytes : List ℕ) : Type 0 where
  pub tag_field : List ℕ
  pub length_field : List ℕ
  pub is_tag : TagBytes tag tag_field
  pub is_length : LengthBytes (length value) length_field
  pub joined : bytes ≡ tag_field ++ length_field ++ value

-- a prefix of the bytes is the element, and rest follows it
abbrev pub BeginsWith : (tag : ℕ) (value rest bytes : List ℕ) → Type 0
BeginsWith tag value rest bytes = (front : List ℕ) × Spelling tag value front × (bytes ≡ front ++ rest)

-- new is old with the element's spelling after it
abbrev pub Appends : (tag : ℕ) (value old new : List ℕ) → Type 0
Appends tag value old new = (bytes : List ℕ) × Spelling tag value bytes × (new ≡ old ++ bytes)

-- a tag and a value
pub record Element : Type 0 where
  pub tag : ℕ
  pub value : List ℕ

-- the bytes are these elements, one after the other
abbrev pub AreElements : List Element → (bytes : List ℕ) → Type 0
AreElements [] bytes = bytes ≡ []
AreElements (element ∷ elements) bytes =
    (first : List ℕ) × (rest : List ℕ) × Spelling element.tag element.value first × AreElements elements rest × (bytes ≡ first ++ rest)
