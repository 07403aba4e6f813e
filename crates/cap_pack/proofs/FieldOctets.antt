-- Fields after their lengths: their bytes, and how many these are.
use Rattle.std.proofs.Common.{◌≡◌, ℕ, ◌+◌, ◌≤◌, List, [], ◌∷◌, length, arith, length-append}
use Rattle.std.specs.List.{flat_map}
use Rattle.cmac_kdf.specs.Blocks.{IsBytes}
use Rattle.tokens_receipts.specs.Receipt.{with_length}
use Rattle.cap_pack.proofs.Octets.{bytes_joined, bytes_more, no_bytes}

-- fields after their lengths are bytes
abbrev pub AreShort : List (List ℕ) → Type 0
AreShort [] = Unit {0}
AreShort (field ∷ fields) = IsBytes field × (length field ≤ 0x7F) × AreShort fields

pub fields_octets : (fields : List (List ℕ)) → AreShort fields → IsBytes (flat_map with_length fields)
fields_octets [] are = no_bytes
fields_octets (field ∷ fields) are =
    bytes_joined (with_length field) (flat_map with_length fields) (bytes_more (length field) field (let short = are.1 in omega (arith, short)) are.0) (fields_octets fields are.2)

pub one_longer : (field : List ℕ) (fields : List (List ℕ)) → length (flat_map with_length (field ∷ fields)) ≡ 1 + length field + length (flat_map with_length fields)
one_longer field fields = omega (arith, length-append (with_length field) (flat_map with_length fields))
