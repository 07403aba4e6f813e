-- For the code inside. Key fields of PUT KEY, one after the other.
use Rattle.std.specs.Prelude.{◌≡◌, ℕ, List, ◌++◌, All, length, map}
use Rattle.std.specs.List.{concat}
use Rattle.policy_machine.specs.PutKey.{AreOfOneLength, HasFieldLengths, SentKey, key_field}

-- the bytes begin with the key field of this key
pub record BeginsWithKey (key : SentKey) (bytes rest : List ℕ) : Type 0 where
  pub lengths : HasFieldLengths key
  pub spelled : bytes ≡ key_field key ++ rest

-- the bytes are the key fields of these keys, which have one length, and no more
pub record AreFields (count : ℕ) (bytes : List ℕ) (keys : List SentKey) : Type 0 where
  pub number : length keys ≡ count
  pub each : All HasFieldLengths keys
  pub alike : AreOfOneLength keys
  pub spelled : bytes ≡ concat (map key_field keys)

-- the bytes are the key fields of no so many keys of one length
abbrev pub NoFields : ℕ → List ℕ → Type 0
NoFields count bytes = (keys : List SentKey) → AreFields count bytes keys → ⊥
