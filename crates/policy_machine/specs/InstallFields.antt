-- The data field of INSTALL (GlobalPlatform Card Specification 2.3.1, 11.5.2.3): fields one after the other, each after its
-- length in one byte, the last of them the token.
use Rattle.std.specs.List.{flat_map}
use Rattle.std.specs.Prelude.{◌≡◌, ℕ, ◌≤◌, List, [], ◌∷◌, ◌++◌, All, length}
use Rattle.policy_machine.specs.Delegation.{Approval}
use Rattle.tokens_receipts.specs.Receipt.{with_length}

-- the bytes are these fields, each with a length of 00 to 7F before it
pub record AreLengthFields (fields : List (List ℕ)) (bytes : List ℕ) : Type 0 where
  pub short : All (λ field. length field ≤ 0x7F) fields
  pub spelled : bytes ≡ flat_map with_length fields

-- the six fields of INSTALL [for install], [for make selectable] and [for extradition]
pub record InstallData : Type 0 where
  pub first : List ℕ
  pub second : List ℕ
  pub third : List ℕ
  pub privileges : List ℕ
  pub parameters : List ℕ
  pub token : List ℕ

-- those before the token, which the token signs
abbrev pub signed_fields : InstallData → List (List ℕ)
signed_fields given = given.first ∷ given.second ∷ given.third ∷ given.privileges ∷ given.parameters ∷ []

-- the data field is these six
abbrev pub IsInstallData : InstallData → List ℕ → Type 0
IsInstallData given = AreLengthFields (signed_fields given ++ given.token ∷ [])

-- the approval that they bring
abbrev pub approval_in : InstallData → Approval
approval_in given = record { before = flat_map with_length (signed_fields given); token = given.token }

-- For the code inside. A field after its length.

-- the bytes begin with this field after its length
pub record BeginsWithField (field bytes rest : List ℕ) : Type 0 where
  pub short : length field ≤ 0x7F
  pub spelled : bytes ≡ with_length field ++ rest
