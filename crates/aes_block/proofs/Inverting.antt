-- The equivalent inverse cipher gives a block that the cipher turns into the old one.
use Rattle.std.proofs.Common.{◌≡◌, ℕ, zero, suc, ◌+◌, ◌-◌, ◌*◌, ◌/◌, ◌<◌, List, [], ◌∷◌, ◌++◌, length, bit_xor, slice_index, refl, sym, ap, ◌∙◌, arith}
use Rattle.aes_block.specs.Cipher.{IsBlock, xor_bytes, sub_bytes, shift_rows, mix_columns, four_words, add_round_key, state_after, cipher_rounds, cipher}
use Rattle.aes_block.proofs.KeyLaw.{first_bytes_are_key}
use Rattle.aes_block.specs.Words.{key_words, first_bytes, rounds}
use Rattle.aes_block.specs.Inverse.{inv_sub_bytes, inv_shift_rows, inv_mix_column, inv_mix_column_at, inv_mix_columns, inv_state_after, inv_cipher_rounds, IsInverseSchedule}
use Rattle.aes_block.proofs.CipherLemmas.{same_block}
use Rattle.aes_block.proofs.MixRules.{inv_mix_column-xor}
use Rattle.aes_block.proofs.Blocks.{AllBytes-block, xor_bytes_is_block, xor_bytes_twice, four_words_is_block, sub-inv_sub, inv_sub_bytes_is_block, shift-inv_shift, inv_shift_rows_is_block, inv_mix_columns_is_block, mix-inv_mix}

at-xor_bytes : (a b : List ℕ) (i : ℕ) → length a ≡ length b → slice_index (xor_bytes a b) i ≡ bit_xor (slice_index a i) (slice_index b i)
unfolding xor_bytes
at-xor_bytes [] [] i h = refl
at-xor_bytes [] (y ∷ b) i h = absurd (omega arith)
at-xor_bytes (x ∷ a) [] i h = absurd (omega arith)
at-xor_bytes (x ∷ a) (y ∷ b) zero h = refl
at-xor_bytes (x ∷ a) (y ∷ b) (suc i) h = at-xor_bytes a b i (omega arith)

pub inv_mix_columns-xor : (a b : List ℕ) → IsBlock a → IsBlock b
    → inv_mix_columns (xor_bytes a b) ≡ xor_bytes (inv_mix_columns a) (inv_mix_columns b)
unfolding inv_mix_columns inv_mix_column_at inv_mix_column xor_bytes
inv_mix_columns-xor a b ha hb =
    let at = λ (i : ℕ). at-xor_bytes a b i (ha.sixteen ∙ sym hb.sixteen) in
    let column = λ (i : ℕ).
    (λ t. inv_mix_column (at i t) (at (i + 1) t) (at (i + 2) t) (at (i + 3) t))
    ∙ inv_mix_column-xor (slice_index a i) (slice_index a (i + 1)) (slice_index a (i + 2)) (slice_index a (i + 3))
    (slice_index b i) (slice_index b (i + 1)) (slice_index b (i + 2)) (slice_index b (i + 3)) in
    (λ t. column 0 t ++ column 4 t ++ column 8 t ++ column 12 t)

module _ (w v : List ℕ) (n : ℕ) (positive : 0 < n) (inverse : IsInverseSchedule w v n) (b : List ℕ) (block : IsBlock b) where
  inv_state_is_block : (j : ℕ) → IsBlock (inv_state_after v n j b)
  unfolding inv_state_after add_round_key
  inv_state_is_block zero = xor_bytes_is_block b (four_words v (4 * n)) block (four_words_is_block v (4 * n))
  inv_state_is_block (suc j) =
      xor_bytes_is_block (inv_mix_columns (inv_sub_bytes (inv_shift_rows (inv_state_after v n j b)))) (four_words v (4 * (n - suc j)))
      (inv_mix_columns_is_block (inv_sub_bytes (inv_shift_rows (inv_state_after v n j b))) (AllBytes-block (inv_sub_bytes_is_block (inv_shift_rows (inv_state_after v n j b)) (inv_shift_rows_is_block (inv_state_after v n j b) (AllBytes-block (inv_state_is_block j)))))) (four_words_is_block v (4 * (n - suc j)))

  -- the state before the round that the state after j inverse rounds ends
  back : ℕ → List ℕ
  back j = inv_sub_bytes (inv_shift_rows (inv_state_after v n j b))

  back_block : (j : ℕ) → IsBlock (back j)
  unfolding back
  back_block j =
      inv_sub_bytes_is_block (inv_shift_rows (inv_state_after v n j b))
      (inv_shift_rows_is_block (inv_state_after v n j b) (AllBytes-block (inv_state_is_block j)))

  forward : (j : ℕ) → shift_rows (sub_bytes (back j)) ≡ inv_state_after v n j b
  unfolding back
  forward j =
      let bytes = AllBytes-block (inv_shift_rows_is_block (inv_state_after v n j b) (AllBytes-block (inv_state_is_block j))) in
      ap shift_rows (sub-inv_sub (inv_shift_rows (inv_state_after v n j b)) bytes)
      ∙ shift-inv_shift (inv_state_after v n j b) (inv_state_is_block j)

  found : List ℕ
  found = inv_cipher_rounds v n b

  pub found_is_block : IsBlock (inv_cipher_rounds v n b)
  unfolding inv_cipher_rounds add_round_key back
  found_is_block = xor_bytes_is_block (back (n - 1)) (four_words v 0) (back_block (n - 1)) (four_words_is_block v 0)

  kept : (s k l : List ℕ) → IsBlock s → IsBlock k → l ≡ k → xor_bytes (xor_bytes s l) k ≡ s
  kept s k l hs hk e = ap (λ (x : List ℕ). xor_bytes (xor_bytes s x) k) e ∙ xor_bytes_twice s k (omega (arith, hs.sixteen, hk.sixteen))

  states_meet : (k j : ℕ) → k + j + 1 ≡ n → state_after w k found ≡ back j
  unfolding found inv_cipher_rounds state_after inv_state_after add_round_key back
  states_meet zero j e =
      let at : n - 1 ≡ j = omega arith in
      kept (back (n - 1)) (four_words w 0) (four_words v 0) (back_block (n - 1)) (four_words_is_block w 0) inverse.first
      ∙ ap back at
  states_meet (suc k) j e =
      let key : List ℕ = four_words w (4 * suc k) in
      let at : n - suc j ≡ suc k = omega arith in
      let middle : four_words v (4 * (n - suc j)) ≡ inv_mix_columns key =
      ap (λ (r : ℕ). four_words v (4 * r)) at ∙ inverse.middle (suc k) (omega arith) (omega arith) in
      let whole : inv_state_after v n (suc j) b ≡ inv_mix_columns (xor_bytes (back j) key) =
      ap (xor_bytes (inv_mix_columns (back j))) middle
      ∙ sym (inv_mix_columns-xor (back j) key (back_block j) (four_words_is_block w (4 * suc k))) in
      let before : shift_rows (sub_bytes (state_after w k found)) ≡ inv_mix_columns (xor_bytes (back j) key) =
      ap (λ (s : List ℕ). shift_rows (sub_bytes s)) (states_meet k (suc j) (omega arith)) ∙ forward (suc j) ∙ whole in
      let sum : IsBlock (xor_bytes (back j) key) = xor_bytes_is_block (back j) key (back_block j) (four_words_is_block w (4 * suc k)) in
      ap (λ (s : List ℕ). xor_bytes (mix_columns s) key) before
      ∙ ap (λ (s : List ℕ). xor_bytes s key) (mix-inv_mix (xor_bytes (back j) key) sum)
      ∙ kept (back j) key key (back_block j) (four_words_is_block w (4 * suc k)) refl

  pub sealed_again : cipher_rounds w n (inv_cipher_rounds v n b) ≡ b
  unfolding cipher_rounds inv_state_after add_round_key found
  sealed_again =
      let key : List ℕ = four_words w (4 * n) in
      ap (λ (s : List ℕ). xor_bytes (shift_rows (sub_bytes s)) key) (states_meet (n - 1) 0 (omega arith))
      ∙ ap (λ (s : List ℕ). xor_bytes s key) (forward 0)
      ∙ kept b key (four_words v (4 * n)) block (four_words_is_block w (4 * n)) inverse.last

-- the cipher and its inverse over a key's schedule, read as the key of its first words
module _ (w v : List ℕ) (nk : ℕ) (schedule : w ≡ key_words (first_bytes w nk)) where
  pub cipher_of : (b : List ℕ) → cipher (first_bytes w nk) b ≡ cipher_rounds w (nk + 6) b
  unfolding cipher rounds
  cipher_of b =
      let key : List ℕ = first_bytes w nk in
      let count : length key / 4 + 6 ≡ nk + 6 = omega (arith, (first_bytes_are_key w nk).len) in
      (λ t. cipher_rounds (sym schedule t) (count t) b)

  module _ (inverse : IsInverseSchedule w v (nk + 6)) (b x : List ℕ) (block : IsBlock b) (ex : x ≡ inv_cipher_rounds v (nk + 6) b) where
    pub given_back : cipher (first_bytes w nk) x ≡ b
    given_back =
        cipher_of x ∙ ap (cipher_rounds w (nk + 6)) ex ∙ sealed_again w v (nk + 6) (omega arith) inverse b block

    pub only_one : (y : List ℕ) → IsBlock y → cipher (first_bytes w nk) y ≡ b → y ≡ x
    only_one y hy e =
        let hx : IsBlock x = rw ex (found_is_block w v (nk + 6) (omega arith) inverse b block) in
        same_block (first_bytes w nk) y x hy hx (e ∙ sym given_back)
