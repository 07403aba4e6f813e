-- Response APDUs with short length fields (ISO/IEC 7816-3:2006, 12.1; ISO/IEC 7816-4:2013, chapter 5).
use Rattle.std.specs.Prelude.{◌≡◌, ℕ, ◌<◌, ◌≤◌, ◌/◌, ◌%◌, List, [], ◌∷◌, ◌++◌, length, All}

-- SW1 and SW2
abbrev pub status_bytes : ℕ → List ℕ
status_bytes status = status / 256 ∷ status % 256 ∷ []

-- the bytes are the reply with this body and this status
pub record ShortReply (body : List ℕ) (status : ℕ) (bytes : List ℕ) : Type 0 where
  pub spelling : bytes ≡ body ++ status_bytes status
  pub short : length body ≤ 256
  pub octets : All (λ b. b < 256) bytes

-- no bytes are two replies
abbrev pub OneReply : Type 0
OneReply =
    (body other : List ℕ) (status another : ℕ) (bytes : List ℕ)
    → ShortReply body status bytes → ShortReply other another bytes → (body ≡ other) × (status ≡ another)
