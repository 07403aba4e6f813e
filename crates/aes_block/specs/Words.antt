-- The key schedule (FIPS 197, 5.2). A word is the number below 2 ^ 32 that its four bytes write, the first byte highest.
use Rattle.std.specs.Prelude.{ℕ, zero, suc, ◌+◌, ◌-◌, ◌*◌, ◌/◌, ◌%◌, ◌^◌, cond, ◌&&◌, ◌==◌, List, [], ◌∷◌, ◌++◌, map, length, bit_xor, slice_index}
use Rattle.std.specs.Int.{w32, rotate_left, from_be_bytes, to_be_bytes}
use Rattle.aes_block.specs.Field.{power}
use Rattle.aes_block.specs.Sbox.{sbox}

-- the bytes of a word
unfoldable pub word_bytes : ℕ → List ℕ
word_bytes w = to_be_bytes w32 w

-- SubWord: the S-box on each byte of a word (5.2, equation 5.11)
unfoldable pub sub_word : ℕ → ℕ
sub_word w = from_be_bytes w32 (map sbox (word_bytes w))

-- RotWord: the first byte becomes the last (5.2, equation 5.10)
unfoldable pub rot_word : ℕ → ℕ
rot_word w = rotate_left w32 w 8

-- Rcon[j]: x to the power j - 1, as the first byte of a word (5.2, table 5)
unfoldable pub round_constant : ℕ → ℕ
round_constant j = power 2 (j - 1) * 2 ^ 24

-- what the word w[i - Nk] is xored with, of w[i - 1] (5.2, algorithm 2)
unfoldable pub schedule_core : ℕ → ℕ → ℕ → ℕ
schedule_core nk i before =
    cond (i % nk == 0) (bit_xor (sub_word (rot_word before)) (round_constant (i / nk)))
    (cond (nk == 8 && (i % 8 == 4)) (sub_word before) before)

-- w[i], after the words w[0] to w[i - 1]
unfoldable pub next_word : ℕ → List ℕ → ℕ → ℕ
next_word nk w i = bit_xor (slice_index w (i - nk)) (schedule_core nk i (slice_index w (i - 1)))

-- the word at byte i of the key
unfoldable pub key_word : List ℕ → ℕ → ℕ
key_word key i = from_be_bytes w32
    (slice_index key i ∷ slice_index key (i + 1) ∷ slice_index key (i + 2) ∷ slice_index key (i + 3) ∷ [])

-- the first n words of the key
unfoldable pub first_words : List ℕ → ℕ → List ℕ
first_words key zero = []
first_words key (suc n) = first_words key n ++ key_word key (4 * n) ∷ []

-- the key's nk words and the n that follow them
unfoldable pub words_after : ℕ → List ℕ → ℕ → List ℕ
words_after nk key zero = first_words key nk
words_after nk key (suc n) = words_after nk key n ++ next_word nk (words_after nk key n) (nk + n) ∷ []

-- Nr: 10, 12 or 14 rounds for a key of 4, 6 or 8 words (5, table 3)
unfoldable pub rounds : List ℕ → ℕ
rounds key = length key / 4 + 6

-- KeyExpansion: 4 * (Nr + 1) words (5.2)
unfoldable pub key_words : List ℕ → List ℕ
key_words key = words_after (length key / 4) key (3 * (length key / 4) + 28)

-- the bytes of the first n words
unfoldable pub first_bytes : List ℕ → ℕ → List ℕ
first_bytes w zero = []
first_bytes w (suc n) = first_bytes w n ++ word_bytes (slice_index w n)
