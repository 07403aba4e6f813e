-- Tokens of delegated management (GlobalPlatform Card Specification 2.3.1, 9.2 and C.4), by CMAC under an AES key.
use Rattle.std.specs.Prelude.{ℕ, List, [], ◌∷◌, Option, None, Some, length}
use Rattle.cmac_kdf.specs.Cmac.{cmac}
use Rattle.tokens_receipts.specs.Receipt.{with_length}

-- what a token signs: P1, P2, how many bytes of the data field stand before the token, and these bytes
abbrev pub signed_by_token : ℕ → ℕ → List ℕ → List ℕ
signed_by_token p1 p2 before = p1 ∷ p2 ∷ length before ∷ before

-- the token that whoever approves the command makes under the token key
abbrev pub token : List ℕ → ℕ → ℕ → List ℕ → List ℕ
token key p1 p2 before = cmac key (signed_by_token p1 p2 before)

-- the object that a DELETE names (4F), which is what stands before its token (11.2.2.3)
abbrev pub object_named_by : List ℕ → List ℕ
object_named_by aid = 0x4F ∷ with_length aid

-- the last field of INSTALL: the token, or nothing
abbrev pub token_field : Option (List ℕ) → List ℕ
token_field None = []
token_field (Some token) = token

-- the element of the token that ends the data field of DELETE, or nothing (11.2.2.3)
abbrev pub token_element : Option (List ℕ) → List ℕ
token_element None = []
token_element (Some token) = 0x9E ∷ with_length token
