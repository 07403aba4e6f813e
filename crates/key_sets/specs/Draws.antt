-- For the code inside. A sequence counter of a key set that is drawn (GlobalPlatform Amendment D, chapter 6).
use Rattle.std.specs.Prelude.{◌≡◌, ℕ, ◌<◌, List, Option, Some, slice_set}
use Rattle.card_types.specs.Counters.{raised_key}
use Rattle.card_types.specs.KeySets.{IsKeyOf}
use Rattle.card_types.specs.Represents.{thing_in}
use Rattle.card_types.specs.declared.limits.TheConstants.{COUNTER_LIMIT}
use Rattle.card_types.specs.declared.tables.KeyRec.{KeyRec}

-- the slot holds the key that keeps the counter of the key set: that with key identifier 01
pub record KeepsCounter (slots : List (Option KeyRec)) (owner version slot : ℕ) (key : KeyRec) : Type 0 where
  pub at : thing_in slots slot ≡ Some key
  pub is : IsKeyOf owner version 1 key

-- the key in the slot has the next counter, and all other slots are as they were
pub record Raises (slot : ℕ) (old new : List (Option KeyRec)) : Type 0 where
  pub key : KeyRec
  pub at : thing_in old slot ≡ Some key
  pub raised : new ≡ slice_set old slot (Some (raised_key key))

-- the answer is the counter, and the key has the next one
pub record Draws (owner version : ℕ) (old new : List (Option KeyRec)) (number : ℕ) : Type 0 where
  pub slot : ℕ
  pub key : KeyRec
  pub keeps : KeepsCounter old owner version slot key
  pub counter : number ≡ key.counter
  pub below : key.counter < COUNTER_LIMIT
  pub raised : new ≡ slice_set old slot (Some (raised_key key))

-- the counter is the last one
pub record IsSpent (owner version : ℕ) (slots : List (Option KeyRec)) : Type 0 where
  pub slot : ℕ
  pub key : KeyRec
  pub keeps : KeepsCounter slots owner version slot key
  pub last : key.counter ≡ COUNTER_LIMIT
