-- The file control information of an entry, byte by byte.
use Rattle.std.proofs.Common.{◌≡◌, ℕ, ◌+◌, ◌<◌, ◌≤◌, List, [], ◌∷◌, ◌++◌, length, length-append, refl, arith, subst}
use Rattle.card_core.specs.Prelude.{IsControlInformation, Spelling, TagGoesOn}

-- the tag of the longest data field of a command, with that length
abbrev longest_field : List ℕ
longest_field = 0x9F ∷ 0x65 ∷ 0x01 ∷ 0xFF ∷ []

abbrev proprietary_data : List ℕ
proprietary_data = 0xA5 ∷ 0x04 ∷ longest_field

-- an element whose tag and length have one byte each
short_element : (tag : ℕ) (value : List ℕ) → 0 < tag → tag < 256 → ¬ TagGoesOn tag → length value < 0x80 → Spelling tag value (tag ∷ length value ∷ value)
short_element tag value some byte alone short = record {
  tag_field = tag ∷ [];
  length_field = length value ∷ [];
  is_tag = (refl, byte, (λ none. absurd (omega (arith, some, none))), alone);
  is_length = (refl, short);
  joined = refl;
}

pub control_information : (aid : List ℕ) → length aid ≤ 16 → IsControlInformation aid (0x6F ∷ (length aid + 8) ∷ 0x84 ∷ length aid ∷ (aid ++ proprietary_data))
control_information aid short = record {
  proprietary = longest_field;
  template = template;
  longest = record {
    tag_field = 0x9F ∷ 0x65 ∷ [];
    length_field = 0x01 ∷ [];
    is_tag = (refl, omega arith, refl, (omega arith, omega arith));
    is_length = (refl, omega arith);
    joined = refl;
  };
  parts = (
    0x84 ∷ length aid ∷ aid,
    proprietary_data,
    short_element 0x84 aid (omega arith) (omega arith) (λ on. cc) (omega (arith, short)),
    (proprietary_data, [], short_element 0xA5 longest_field (omega arith) (omega arith) (λ on. cc) (omega arith), refl, refl),
    refl,
  );
  whole = subst (λ (n : ℕ). Spelling 0x6F template (0x6F ∷ n ∷ template)) size (short_element 0x6F template (omega arith) (omega arith) (λ on. cc) (omega (arith, short, size)));
}
  where
    template : List ℕ
    template = 0x84 ∷ length aid ∷ (aid ++ proprietary_data)

    size : length template ≡ length aid + 8
    size = omega (arith, length-append aid proprietary_data)
