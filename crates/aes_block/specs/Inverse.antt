-- For the code inside. The steps of the equivalent inverse cipher (FIPS 197, 5.3), which the code of `unseal` takes. What
-- `unseal` gives is not said by these: it is the block that the cipher turns into the old one.
use Rattle.std.specs.Prelude.{◌≡◌, ℕ, zero, suc, ◌+◌, ◌-◌, ◌*◌, ◌/◌, ◌%◌, ◌<◌, List, [], ◌∷◌, ◌++◌, map, slice_index}
use Rattle.std.specs.Int.{byte_at}
use Rattle.std.specs.List.{range_with_len}
use Rattle.aes_block.specs.Cipher.{row_times, add_round_key, four_words}
use Rattle.aes_block.specs.declared.tables.TheConstants.{INVERSE_SBOX}

-- the inverse of the S-box (5.3.2)
unfoldable pub inv_sbox : ℕ → ℕ
inv_sbox x = slice_index INVERSE_SBOX x

-- InvSubBytes (5.3.2)
unfoldable pub inv_sub_bytes : List ℕ → List ℕ
inv_sub_bytes s = map inv_sbox s

-- InvShiftRows: row r turned right by r places (5.3.1)
unfoldable pub inv_shift_rows : List ℕ → List ℕ
inv_shift_rows s = map (λ i. slice_index s (i % 4 + 4 * ((i / 4 + 4 - i % 4) % 4))) (range_with_len 0 16)

-- a column under InvMixColumns: the rows are 0e 0b 0d 09 turned right by 0, 1, 2 and 3 places (5.3.3)
unfoldable pub inv_mix_column : ℕ → ℕ → ℕ → ℕ → List ℕ
inv_mix_column a b c d =
    row_times 0x0e 0x0b 0x0d 0x09 a b c d ∷ row_times 0x09 0x0e 0x0b 0x0d a b c d
    ∷ row_times 0x0d 0x09 0x0e 0x0b a b c d ∷ row_times 0x0b 0x0d 0x09 0x0e a b c d ∷ []

-- the column that begins at place i, under InvMixColumns
unfoldable pub inv_mix_column_at : List ℕ → ℕ → List ℕ
inv_mix_column_at s i =
    inv_mix_column (slice_index s i) (slice_index s (i + 1)) (slice_index s (i + 2)) (slice_index s (i + 3))

-- InvMixColumns (5.3.3)
unfoldable pub inv_mix_columns : List ℕ → List ℕ
inv_mix_columns s =
    inv_mix_column_at s 0 ++ inv_mix_column_at s 4 ++ inv_mix_column_at s 8 ++ inv_mix_column_at s 12

-- the state after AddRoundKey n and j whole inverse rounds, with the inverse key schedule v (5.3.5)
unfoldable pub inv_state_after : List ℕ → ℕ → ℕ → List ℕ → List ℕ
inv_state_after v n zero b = add_round_key v n b
inv_state_after v n (suc j) b =
    add_round_key v (n - suc j) (inv_mix_columns (inv_sub_bytes (inv_shift_rows (inv_state_after v n j b))))

-- EQINVCIPHER of n rounds (5.3.5, algorithm 4)
unfoldable pub inv_cipher_rounds : List ℕ → ℕ → List ℕ → List ℕ
inv_cipher_rounds v n b = add_round_key v 0 (inv_sub_bytes (inv_shift_rows (inv_state_after v n (n - 1) b)))

-- the bytes of a word under InvMixColumns
unfoldable pub inv_mix_word : ℕ → List ℕ
inv_mix_word w = inv_mix_column (byte_at 3 w) (byte_at 2 w) (byte_at 1 w) (byte_at 0 w)

-- v is the inverse key schedule of w, for n rounds: InvMixColumns of the middle round keys (5.3.5, algorithm 5)
pub record IsInverseSchedule (w v : List ℕ) (n : ℕ) : Type 0 where
  pub first : four_words v 0 ≡ four_words w 0
  pub last : four_words v (4 * n) ≡ four_words w (4 * n)
  pub middle : (r : ℕ) → 0 < r → r < n → four_words v (4 * r) ≡ inv_mix_columns (four_words w (4 * r))
