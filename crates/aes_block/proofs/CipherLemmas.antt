-- What callers of the cipher use: it gives a block, and no two blocks give the same one.
use Rattle.std.proofs.Common.{◌≡◌, ℕ, zero, suc, ◌-◌, ◌*◌, List, sym, ap, ◌∙◌}
use Rattle.aes_block.specs.Words.{key_words, rounds}
use Rattle.aes_block.specs.Cipher.{IsBlock, sub_bytes, shift_rows, mix_columns, four_words, add_round_key, state_after, cipher_rounds, cipher}
use Rattle.aes_block.specs.Inverse.{inv_sub_bytes, inv_shift_rows, inv_mix_columns}
use Rattle.aes_block.proofs.Blocks.{AllBytes-block, xor_bytes_cancel, four_words_is_block, sub_bytes_are_bytes, sub_bytes_is_block, inv_sub-sub, shift_rows_is_block, inv_shift-shift, mix_columns_is_block, inv_mix-mix}
pub use Rattle.aes_block.proofs.Blocks.{length-xor_bytes, xor_bytes_twice, xor_bytes_is_block}

module _ (w : List ℕ) where
  -- the state before the last steps of a round
  shifted_is_block : (s : List ℕ) → IsBlock (shift_rows (sub_bytes s))
  shifted_is_block s = shift_rows_is_block (sub_bytes s) (sub_bytes_are_bytes s)

  mixed_is_block : (s : List ℕ) → IsBlock (mix_columns (shift_rows (sub_bytes s)))
  mixed_is_block s = mix_columns_is_block (shift_rows (sub_bytes s)) (AllBytes-block (shifted_is_block s))

  pub state_is_block : (n : ℕ) (b : List ℕ) → IsBlock b → IsBlock (state_after w n b)
  unfolding state_after add_round_key
  state_is_block zero b h = xor_bytes_is_block b (four_words w 0) h (four_words_is_block w 0)
  state_is_block (suc n) b h =
      xor_bytes_is_block (mix_columns (shift_rows (sub_bytes (state_after w n b)))) (four_words w (4 * suc n))
      (mixed_is_block (state_after w n b)) (four_words_is_block w (4 * suc n))

  pub rounds_give_block : (n : ℕ) (b : List ℕ) → IsBlock (cipher_rounds w n b)
  unfolding cipher_rounds add_round_key
  rounds_give_block n b =
      xor_bytes_is_block (shift_rows (sub_bytes (state_after w (n - 1) b))) (four_words w (4 * n))
      (shifted_is_block (state_after w (n - 1) b)) (four_words_is_block w (4 * n))

  same_before_shift : (s t : List ℕ) → IsBlock s → IsBlock t → shift_rows (sub_bytes s) ≡ shift_rows (sub_bytes t) → s ≡ t
  same_before_shift s t hs ht e =
      let rows : sub_bytes s ≡ sub_bytes t =
      sym (inv_shift-shift (sub_bytes s) (sub_bytes_is_block s hs)) ∙ ap inv_shift_rows e ∙ inv_shift-shift (sub_bytes t) (sub_bytes_is_block t ht) in
      sym (inv_sub-sub s (AllBytes-block hs)) ∙ ap inv_sub_bytes rows ∙ inv_sub-sub t (AllBytes-block ht)

  same_before : (n : ℕ) (a b : List ℕ) → IsBlock a → IsBlock b → state_after w n a ≡ state_after w n b → a ≡ b
  unfolding state_after add_round_key
  same_before zero a b ha hb e = xor_bytes_cancel a b (four_words w 0) ha hb (four_words_is_block w 0) e
  same_before (suc n) a b ha hb e =
      let s : List ℕ = state_after w n a in
      let t : List ℕ = state_after w n b in
      let mixed : mix_columns (shift_rows (sub_bytes s)) ≡ mix_columns (shift_rows (sub_bytes t)) =
      xor_bytes_cancel (mix_columns (shift_rows (sub_bytes s))) (mix_columns (shift_rows (sub_bytes t))) (four_words w (4 * suc n))
      (mixed_is_block s) (mixed_is_block t) (four_words_is_block w (4 * suc n)) e in
      let shifted : shift_rows (sub_bytes s) ≡ shift_rows (sub_bytes t) =
      sym (inv_mix-mix (shift_rows (sub_bytes s)) (shifted_is_block s)) ∙ ap inv_mix_columns mixed ∙ inv_mix-mix (shift_rows (sub_bytes t)) (shifted_is_block t) in
      same_before n a b ha hb (same_before_shift s t (state_is_block n a ha) (state_is_block n b hb) shifted)

  pub same_rounds : (n : ℕ) (a b : List ℕ) → IsBlock a → IsBlock b → cipher_rounds w n a ≡ cipher_rounds w n b → a ≡ b
  unfolding cipher_rounds add_round_key
  same_rounds n a b ha hb e =
      let s : List ℕ = state_after w (n - 1) a in
      let t : List ℕ = state_after w (n - 1) b in
      let shifted : shift_rows (sub_bytes s) ≡ shift_rows (sub_bytes t) =
      xor_bytes_cancel (shift_rows (sub_bytes s)) (shift_rows (sub_bytes t)) (four_words w (4 * n))
      (shifted_is_block s) (shifted_is_block t) (four_words_is_block w (4 * n)) e in
      same_before (n - 1) a b ha hb (same_before_shift s t (state_is_block (n - 1) a ha) (state_is_block (n - 1) b hb) shifted)

-- whatever the key and the block are, the cipher gives sixteen bytes
pub cipher_is_block : (key b : List ℕ) → IsBlock (cipher key b)
unfolding cipher
cipher_is_block key b = rounds_give_block (key_words key) (rounds key) b

-- blocks that one key turns into the same block are the same
pub same_block : (key a b : List ℕ) → IsBlock a → IsBlock b → cipher key a ≡ cipher key b → a ≡ b
unfolding cipher
same_block key a b ha hb e = same_rounds (key_words key) (rounds key) a b ha hb e
