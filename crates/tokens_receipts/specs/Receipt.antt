-- Receipts of delegated management (GlobalPlatform Card Specification 2.3.1, 9.1.3.4, 11.1.6 and C.5), by CMAC under an AES key.
-- Which AIDs a receipt covers, and that it covers the card's unique data, is this profile's own.
use Rattle.std.specs.Prelude.{ℕ, List, [], ◌∷◌, ◌++◌, Option, None, Some, length}
use Rattle.std.specs.Int.{to_be_bytes, w16}
use Rattle.std.specs.List.{flat_map}
use Rattle.cmac_kdf.specs.Cmac.{cmac}

-- a field after its length in one byte
abbrev pub with_length : List ℕ → List ℕ
with_length field = length field ∷ field

-- the number of a receipt, of two bytes, after its length
abbrev pub number_field : ℕ → List ℕ
number_field number = with_length (to_be_bytes w16 number)

-- what a receipt signs: its number, the card's unique data, and the AIDs that the command was about
abbrev pub signed_by_receipt : ℕ → List ℕ → List (List ℕ) → List ℕ
signed_by_receipt number unique aids = number_field number ++ with_length unique ++ flat_map with_length aids

-- the receipt, its number and the card's unique data
abbrev pub confirmation : List ℕ → ℕ → List ℕ → List (List ℕ) → List ℕ
confirmation key number unique aids =
    with_length (cmac key (signed_by_receipt number unique aids)) ++ number_field number ++ with_length unique

-- the data field of a receipted reply
abbrev pub receipt : List ℕ → ℕ → List ℕ → List (List ℕ) → List ℕ
receipt key number unique aids = with_length (confirmation key number unique aids)

-- up to three AIDs in their order
abbrev pub some_aid : Option (List ℕ) → List (List ℕ)
some_aid None = []
some_aid (Some aid) = aid ∷ []

abbrev pub aids_of : List ℕ → Option (List ℕ) → Option (List ℕ) → List (List ℕ)
aids_of first second third = first ∷ some_aid second ++ some_aid third
