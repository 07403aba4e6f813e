-- The cipher (FIPS 197, 5.1). The state is sixteen bytes, and the byte of row r and column c has the place r + 4 * c (3.4).
use Rattle.std.specs.Prelude.{◌≡◌, ℕ, zero, suc, ◌+◌, ◌-◌, ◌*◌, ◌/◌, ◌%◌, ◌<◌, ◌^◌, ◌⊎◌, List, [], ◌∷◌, ◌++◌, map, length, bit_xor, slice_index}
use Rattle.std.specs.List.{range_with_len}
use Rattle.aes_block.specs.Field.{times}
use Rattle.aes_block.specs.Sbox.{sbox}
use Rattle.aes_block.specs.Words.{key_words, rounds, word_bytes}

-- a block: sixteen bytes
pub record IsBlock (b : List ℕ) : Type 0 where
  pub sixteen : length b ≡ 16
  pub bytes : (i : ℕ) → slice_index b i < 2 ^ 8

-- a key of n bytes
pub record IsKey (n : ℕ) (key : List ℕ) : Type 0 where
  pub len : length key ≡ n
  pub bytes : (i : ℕ) → slice_index key i < 2 ^ 8

-- the lengths of a key (5, table 3)
abbrev pub IsAesKeyLength : ℕ → Type 0
IsAesKeyLength n = (n ≡ 16) ⊎ (n ≡ 24) ⊎ (n ≡ 32)

-- the sum of two lists of bytes, byte by byte (4.1); of lists of two lengths it is as long as the shorter
unfoldable pub xor_bytes : List ℕ → List ℕ → List ℕ
xor_bytes (a ∷ as_) (b ∷ bs) = bit_xor a b ∷ xor_bytes as_ bs
xor_bytes as_ bs = []

-- SubBytes (5.1.1)
unfoldable pub sub_bytes : List ℕ → List ℕ
sub_bytes s = map sbox s

-- ShiftRows: row r turned left by r places (5.1.2)
unfoldable pub shift_rows : List ℕ → List ℕ
shift_rows s = map (λ i. slice_index s (i % 4 + 4 * ((i / 4 + i % 4) % 4))) (range_with_len 0 16)

-- a row of a matrix times a column (4.3)
unfoldable pub row_times : ℕ → ℕ → ℕ → ℕ → ℕ → ℕ → ℕ → ℕ → ℕ
row_times p q r s a b c d = bit_xor (bit_xor (times p a) (times q b)) (bit_xor (times r c) (times s d))

-- a column under MixColumns: the matrix's rows are 02 03 01 01 turned right by 0, 1, 2 and 3 places (5.1.3)
unfoldable pub mix_column : ℕ → ℕ → ℕ → ℕ → List ℕ
mix_column a b c d =
    row_times 2 3 1 1 a b c d ∷ row_times 1 2 3 1 a b c d
    ∷ row_times 1 1 2 3 a b c d ∷ row_times 3 1 1 2 a b c d ∷ []

-- the column that begins at place i, under MixColumns
unfoldable pub mix_column_at : List ℕ → ℕ → List ℕ
mix_column_at s i = mix_column (slice_index s i) (slice_index s (i + 1)) (slice_index s (i + 2)) (slice_index s (i + 3))

-- MixColumns (5.1.3)
unfoldable pub mix_columns : List ℕ → List ℕ
mix_columns s = mix_column_at s 0 ++ mix_column_at s 4 ++ mix_column_at s 8 ++ mix_column_at s 12

-- the bytes of the four words from w[i] on
unfoldable pub four_words : List ℕ → ℕ → List ℕ
four_words w i =
    word_bytes (slice_index w i) ++ word_bytes (slice_index w (i + 1))
    ++ word_bytes (slice_index w (i + 2)) ++ word_bytes (slice_index w (i + 3))

-- AddRoundKey of round r, with the key schedule w (5.1.4)
unfoldable pub add_round_key : List ℕ → ℕ → List ℕ → List ℕ
add_round_key w r s = xor_bytes s (four_words w (4 * r))

-- the state after AddRoundKey and n whole rounds (5.1, algorithm 1)
unfoldable pub state_after : List ℕ → ℕ → List ℕ → List ℕ
state_after w zero b = add_round_key w 0 b
state_after w (suc n) b = add_round_key w (suc n) (mix_columns (shift_rows (sub_bytes (state_after w n b))))

-- the block after n rounds, the last without MixColumns (5.1, algorithm 1)
unfoldable pub cipher_rounds : List ℕ → ℕ → List ℕ → List ℕ
cipher_rounds w n b = add_round_key w n (shift_rows (sub_bytes (state_after w (n - 1) b)))

-- CIPHER: the block b under a key of 16, 24 or 32 bytes (5.1)
unfoldable pub cipher : List ℕ → List ℕ → List ℕ
cipher key b = cipher_rounds (key_words key) (rounds key) b
