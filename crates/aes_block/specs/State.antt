-- For the code inside. What the code keeps: the state as four words, one a column, and the key schedule in an array for the
-- longest.
use Rattle.std.specs.Prelude.{◌≡◌, ℕ, ◌+◌, ◌*◌, ◌/◌, List, ◌++◌, take}
use Rattle.aes_block.specs.Cipher.{IsKey}
use Rattle.aes_block.specs.Words.{first_bytes, key_words, word_bytes}
use Rattle.aes_block.specs.declared.columns.Columns.{Columns}

-- the sixteen bytes of four columns
unfoldable pub state_bytes : Columns → List ℕ
state_bytes s = word_bytes s.a ++ word_bytes s.b ++ word_bytes s.c ++ word_bytes s.d

-- the words of the schedule of a key of n bytes, which stand in front of unused ones
abbrev pub schedule_of : ℕ → List ℕ → List ℕ
schedule_of n words = take (4 * (n / 4 + 6) + 4) words

-- the key that its words begin with
abbrev pub key_in : ℕ → List ℕ → List ℕ
key_in n words = first_bytes (schedule_of n words) (n / 4)

-- they are the schedule of that key
pub record HasSchedule (n : ℕ) (words : List ℕ) : Type 0 where
  pub whole : IsKey n (key_in n words)
  pub schedule : schedule_of n words ≡ key_words (key_in n words)
