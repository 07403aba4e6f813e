-- One more round, and the last, as the code's loops go.
use Rattle.std.proofs.Common.{◌≡◌, ℕ, suc, ◌+◌, ◌-◌, ◌*◌, List, ap, ◌∙◌, add-one, arith}
use Rattle.aes_block.specs.Cipher.{xor_bytes, sub_bytes, shift_rows, mix_columns, four_words, add_round_key, state_after, cipher_rounds}
use Rattle.aes_block.specs.Inverse.{inv_sub_bytes, inv_shift_rows, inv_mix_columns, inv_state_after, inv_cipher_rounds}

module _ (w b s k next : List ℕ) (n : ℕ) where
  pub one_more_round : s ≡ state_after w n b → k ≡ four_words w (4 * n + 4)
      → next ≡ xor_bytes (mix_columns (shift_rows (sub_bytes s))) k → next ≡ state_after w (n + 1) b
  unfolding state_after add_round_key
  one_more_round es ek en =
      let at : 4 * n + 4 ≡ 4 * suc n = omega arith in
      rw add-one (en ∙ (λ i. xor_bytes (mix_columns (shift_rows (sub_bytes (es i)))) (ek i))
      ∙ ap (λ (j : ℕ). xor_bytes (mix_columns (shift_rows (sub_bytes (state_after w n b)))) (four_words w j)) at)

  pub last_round : (r : ℕ) → r ≡ n - 1 → s ≡ state_after w r b → k ≡ four_words w (4 * n)
      → next ≡ xor_bytes (shift_rows (sub_bytes s)) k → next ≡ cipher_rounds w n b
  unfolding cipher_rounds add_round_key
  last_round r er es ek en =
      en ∙ (λ i. xor_bytes (shift_rows (sub_bytes (es i))) (ek i))
      ∙ ap (λ (j : ℕ). xor_bytes (shift_rows (sub_bytes (state_after w j b))) (four_words w (4 * n))) er

  pub one_more_inverse_round : (j : ℕ) → s ≡ inv_state_after w n j b → k ≡ four_words w (4 * (n - 1 - j))
      → next ≡ xor_bytes (inv_mix_columns (inv_sub_bytes (inv_shift_rows s))) k → next ≡ inv_state_after w n (j + 1) b
  unfolding inv_state_after add_round_key
  one_more_inverse_round j es ek en =
      let at : n - 1 - j ≡ n - suc j = omega arith in
      rw add-one (en ∙ (λ i. xor_bytes (inv_mix_columns (inv_sub_bytes (inv_shift_rows (es i)))) (ek i))
      ∙ ap (λ (r : ℕ). xor_bytes (inv_mix_columns (inv_sub_bytes (inv_shift_rows (inv_state_after w n j b)))) (four_words w (4 * r))) at)

  pub last_inverse_round : (r : ℕ) → r ≡ n - 1 → s ≡ inv_state_after w n r b → k ≡ four_words w 0
      → next ≡ xor_bytes (inv_sub_bytes (inv_shift_rows s)) k → next ≡ inv_cipher_rounds w n b
  unfolding inv_cipher_rounds add_round_key
  last_inverse_round r er es ek en =
      en ∙ (λ i. xor_bytes (inv_sub_bytes (inv_shift_rows (es i))) (ek i))
      ∙ ap (λ (j : ℕ). xor_bytes (inv_sub_bytes (inv_shift_rows (inv_state_after w n j b))) (four_words w 0)) er
