-- The example vectors of FIPS 197, appendix C (C.1, C.2 and C.3), computed from the definitions.
use Rattle.std.proofs.Common.{◌≡◌, ℕ, List, [], ◌∷◌, refl}
use Rattle.std.specs.List.{range_with_len}
use Rattle.aes_block.specs.Field.{xtime, times, times_terms, power}
use Rattle.aes_block.specs.Sbox.{sbox, affine, affine_bit}
use Rattle.aes_block.specs.Words.{word_bytes, sub_word, rot_word, round_constant, schedule_core, next_word, key_word, first_words, words_after, rounds, key_words}
use Rattle.aes_block.specs.Cipher.{xor_bytes, sub_bytes, shift_rows, row_times, mix_column, mix_column_at, mix_columns, four_words, add_round_key, state_after, cipher_rounds, cipher}

plain_text : List ℕ
plain_text = 0x00 ∷ 0x11 ∷ 0x22 ∷ 0x33 ∷ 0x44 ∷ 0x55 ∷ 0x66 ∷ 0x77 ∷ 0x88 ∷ 0x99 ∷ 0xaa ∷ 0xbb ∷ 0xcc ∷ 0xdd ∷ 0xee ∷ 0xff ∷ []

appendix_c1 : cipher (range_with_len 0 16) plain_text ≡ 0x69 ∷ 0xc4 ∷ 0xe0 ∷ 0xd8 ∷ 0x6a ∷ 0x7b ∷ 0x04 ∷ 0x30 ∷ 0xd8 ∷ 0xcd ∷ 0xb7 ∷ 0x80 ∷ 0x70 ∷ 0xb4 ∷ 0xc5 ∷ 0x5a ∷ []
unfolding plain_text xtime times times_terms power sbox affine affine_bit word_bytes sub_word rot_word round_constant schedule_core next_word key_word first_words words_after rounds key_words xor_bytes sub_bytes shift_rows row_times mix_column mix_column_at mix_columns four_words add_round_key state_after cipher_rounds cipher
appendix_c1 = refl

appendix_c2 : cipher (range_with_len 0 24) plain_text ≡ 0xdd ∷ 0xa9 ∷ 0x7c ∷ 0xa4 ∷ 0x86 ∷ 0x4c ∷ 0xdf ∷ 0xe0 ∷ 0x6e ∷ 0xaf ∷ 0x70 ∷ 0xa0 ∷ 0xec ∷ 0x0d ∷ 0x71 ∷ 0x91 ∷ []
unfolding plain_text xtime times times_terms power sbox affine affine_bit word_bytes sub_word rot_word round_constant schedule_core next_word key_word first_words words_after rounds key_words xor_bytes sub_bytes shift_rows row_times mix_column mix_column_at mix_columns four_words add_round_key state_after cipher_rounds cipher
appendix_c2 = refl

appendix_c3 : cipher (range_with_len 0 32) plain_text ≡ 0x8e ∷ 0xa2 ∷ 0xb7 ∷ 0xca ∷ 0x51 ∷ 0x67 ∷ 0x45 ∷ 0xbf ∷ 0xea ∷ 0xfc ∷ 0x49 ∷ 0x90 ∷ 0x4b ∷ 0x49 ∷ 0x60 ∷ 0x89 ∷ []
unfolding plain_text xtime times times_terms power sbox affine affine_bit word_bytes sub_word rot_word round_constant schedule_core next_word key_word first_words words_after rounds key_words xor_bytes sub_bytes shift_rows row_times mix_column mix_column_at mix_columns four_words add_round_key state_after cipher_rounds cipher
appendix_c3 = refl
