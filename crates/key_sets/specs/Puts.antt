-- For the code inside. Keys that are put and deleted: the keys that the slots of a card have afterwards, whatever slots they are
-- in (GlobalPlatform Card Specification 2.3.1, 11.2 and 11.8).
use Rattle.std.specs.Prelude.{◌≡◌, ℕ, ◌++◌, List, [], ◌∷◌, Option, length}
use Rattle.std.specs.List.Sorted.{IsPermutation}
use Rattle.card_types.specs.Represents.{things_in}
use Rattle.card_types.specs.declared.tables.KeyRec.{KeyRec}
use Rattle.key_rules.specs.Staying.{staying}

-- there are as many slots as before, and they have the added keys and those that stay
pub record Puts (owner replaced : ℕ) (added : List KeyRec) (old new : List (Option KeyRec)) : Type 0 where
  pub count : length new ≡ length old
  pub keys : IsPermutation (things_in new) (added ++ staying owner replaced old)

-- they have those that stay alone
abbrev pub Deletes : ℕ → ℕ → List (Option KeyRec) → List (Option KeyRec) → Type 0
Deletes owner version = Puts owner version []

-- a key that is put
abbrev pub new_key : ℕ → ℕ → ℕ → List ℕ → KeyRec
new_key owner version identifier bytes = record {
  owner = owner;
  version = version;
  identifier = identifier;
  bytes = record { items = bytes };
  counter = 0;
}

-- Key-ENC, Key-MAC and Key-DEK of a key set (GlobalPlatform Amendment D, chapter 6)
abbrev pub set_keys : ℕ → ℕ → List ℕ → List ℕ → List ℕ → List KeyRec
set_keys owner version enc mac dek = new_key owner version 1 enc ∷ new_key owner version 2 mac ∷ new_key owner version 3 dek ∷ []
