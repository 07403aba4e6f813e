-- MixColumns and InvMixColumns undo each other, and go through exclusive or.
use Rattle.std.proofs.Common.{◌≡◌, ℕ, ◌+◌, ◌-◌, ◌%◌, ◌<◌, List, [], ◌∷◌, map, cond, ◌==◌, bit_xor, slice_index, refl, sym, ◌∙◌}
use lib.Bits.{xor_zero_r}
use Rattle.aes_block.specs.Field.{xtime, times, times_terms}
use Rattle.aes_block.specs.Cipher.{row_times, mix_column, xor_bytes}
use Rattle.aes_block.specs.Inverse.{inv_mix_column}
use Rattle.aes_block.proofs.Xor.{four, four-xor}
use Rattle.aes_block.proofs.Products.{times-xor}
use Rattle.aes_block.proofs.Bytes.{bytes, same_at}

times-four : (p a b c d : ℕ) → times p (four a b c d) ≡ four (times p a) (times p b) (times p c) (times p d)
times-four p a b c d =
    times-xor p (bit_xor a b) (bit_xor c d) ∙ (λ i. bit_xor (times-xor p a b i) (times-xor p c d i))

-- the sum of four rows is the sum of four columns
four_turned : (a0 a1 a2 a3 b0 b1 b2 b3 c0 c1 c2 c3 d0 d1 d2 d3 : ℕ)
    → four (four a0 a1 a2 a3) (four b0 b1 b2 b3) (four c0 c1 c2 c3) (four d0 d1 d2 d3)
    ≡ four (four a0 b0 c0 d0) (four a1 b1 c1 d1) (four a2 b2 c2 d2) (four a3 b3 c3 d3)
four_turned a0 a1 a2 a3 b0 b1 b2 b3 c0 c1 c2 c3 d0 d1 d2 d3 =
    (λ i. bit_xor (four-xor a0 a1 a2 a3 b0 b1 b2 b3 i) (four-xor c0 c1 c2 c3 d0 d1 d2 d3 i))
    ∙ four-xor (bit_xor a0 b0) (bit_xor a1 b1) (bit_xor a2 b2) (bit_xor a3 b3) (bit_xor c0 d0) (bit_xor c1 d1) (bit_xor c2 d2) (bit_xor c3 d3)

-- the coefficient in row i and column j of the matrix whose rows are m turned right
abbrev turned : List ℕ → ℕ → ℕ → ℕ
turned m i j = slice_index m ((j + 4 - i) % 4)

-- row i of that matrix times a column
abbrev row : List ℕ → ℕ → ℕ → ℕ → ℕ → ℕ → ℕ
row m i a b c d = four (times (turned m i 0) a) (times (turned m i 1) b) (times (turned m i 2) c) (times (turned m i 3) d)

-- row i of g's matrix times column j of m's, times x
abbrev through : List ℕ → List ℕ → ℕ → ℕ → ℕ → ℕ
through g m i j x =
    four (times (turned g i 0) (times (turned m 0 j) x)) (times (turned g i 1) (times (turned m 1 j) x))
    (times (turned g i 2) (times (turned m 2 j) x)) (times (turned g i 3) (times (turned m 3 j) x))

-- row i and column j of the matrix of one
abbrev kept : ℕ → ℕ → ℕ → ℕ
kept i j x = cond (i == j) x 0

module _ (g m : List ℕ) (i : ℕ) where
  rows-through : (a b c d : ℕ)
      → row g i (row m 0 a b c d) (row m 1 a b c d) (row m 2 a b c d) (row m 3 a b c d)
      ≡ four (through g m i 0 a) (through g m i 1 b) (through g m i 2 c) (through g m i 3 d)
  rows-through a b c d =
      let p = λ (k j x : ℕ). times (turned g i k) (times (turned m k j) x) in
      let part = λ (k : ℕ). times-four (turned g i k) (times (turned m k 0) a) (times (turned m k 1) b) (times (turned m k 2) c) (times (turned m k 3) d) in
      (λ t. four (part 0 t) (part 1 t) (part 2 t) (part 3 t))
      ∙ four_turned (p 0 0 a) (p 0 1 b) (p 0 2 c) (p 0 3 d) (p 1 0 a) (p 1 1 b) (p 1 2 c) (p 1 3 d) (p 2 0 a) (p 2 1 b) (p 2 2 c) (p 2 3 d) (p 3 0 a) (p 3 1 b) (p 3 2 c) (p 3 3 d)

  row_undone : map (through g m i 0) bytes ≡ map (kept i 0) bytes → map (through g m i 1) bytes ≡ map (kept i 1) bytes
      → map (through g m i 2) bytes ≡ map (kept i 2) bytes → map (through g m i 3) bytes ≡ map (kept i 3) bytes
      → (a b c d : ℕ) → a < 256 → b < 256 → c < 256 → d < 256
      → row g i (row m 0 a b c d) (row m 1 a b c d) (row m 2 a b c d) (row m 3 a b c d)
      ≡ four (kept i 0 a) (kept i 1 b) (kept i 2 c) (kept i 3 d)
  row_undone e0 e1 e2 e3 a b c d ha hb hc hd =
      rows-through a b c d
      ∙ (λ t. four (same_at (through g m i 0) (kept i 0) e0 a ha t) (same_at (through g m i 1) (kept i 1) e1 b hb t)
      (same_at (through g m i 2) (kept i 2) e2 c hc t) (same_at (through g m i 3) (kept i 3) e3 d hd t))

first_left : (x : ℕ) → four x 0 0 0 ≡ x
first_left x = xor_zero_r (bit_xor x 0) ∙ xor_zero_r x

second_left : (x : ℕ) → four 0 x 0 0 ≡ x
second_left x = xor_zero_r x

third_left : (x : ℕ) → four 0 0 x 0 ≡ x
third_left x = xor_zero_r x

abbrev mix : List ℕ
mix = 2 ∷ 3 ∷ 1 ∷ 1 ∷ []

abbrev inv_mix : List ℕ
inv_mix = 0x0e ∷ 0x0b ∷ 0x0d ∷ 0x09 ∷ []

module _ (a b c d : ℕ) (ha : a < 256) (hb : b < 256) (hc : c < 256) (hd : d < 256) where
  pub unmixed : inv_mix_column (row_times 2 3 1 1 a b c d) (row_times 1 2 3 1 a b c d) (row_times 1 1 2 3 a b c d) (row_times 3 1 1 2 a b c d)
      ≡ a ∷ b ∷ c ∷ d ∷ []
  unfolding inv_mix_column row_times times times_terms xtime
  unmixed =
      let e0 = row_undone inv_mix mix 0 refl refl refl refl a b c d ha hb hc hd ∙ first_left a in
      let e1 = row_undone inv_mix mix 1 refl refl refl refl a b c d ha hb hc hd ∙ second_left b in
      let e2 = row_undone inv_mix mix 2 refl refl refl refl a b c d ha hb hc hd ∙ third_left c in
      let e3 = row_undone inv_mix mix 3 refl refl refl refl a b c d ha hb hc hd in
      (λ t. e0 t ∷ e1 t ∷ e2 t ∷ e3 t ∷ [])

  pub mixed_back : mix_column (row_times 0x0e 0x0b 0x0d 0x09 a b c d) (row_times 0x09 0x0e 0x0b 0x0d a b c d) (row_times 0x0d 0x09 0x0e 0x0b a b c d) (row_times 0x0b 0x0d 0x09 0x0e a b c d)
      ≡ a ∷ b ∷ c ∷ d ∷ []
  unfolding mix_column row_times times times_terms xtime
  mixed_back =
      let e0 = row_undone mix inv_mix 0 refl refl refl refl a b c d ha hb hc hd ∙ first_left a in
      let e1 = row_undone mix inv_mix 1 refl refl refl refl a b c d ha hb hc hd ∙ second_left b in
      let e2 = row_undone mix inv_mix 2 refl refl refl refl a b c d ha hb hc hd ∙ third_left c in
      let e3 = row_undone mix inv_mix 3 refl refl refl refl a b c d ha hb hc hd in
      (λ t. e0 t ∷ e1 t ∷ e2 t ∷ e3 t ∷ [])

row_times-xor : (p q r s a b c d e f g h : ℕ)
    → row_times p q r s (bit_xor a e) (bit_xor b f) (bit_xor c g) (bit_xor d h)
    ≡ bit_xor (row_times p q r s a b c d) (row_times p q r s e f g h)
unfolding row_times
row_times-xor p q r s a b c d e f g h =
    (λ t. four (times-xor p a e t) (times-xor q b f t) (times-xor r c g t) (times-xor s d h t))
    ∙ sym (four-xor (times p a) (times q b) (times r c) (times s d) (times p e) (times q f) (times r g) (times s h))

pub inv_mix_column-xor : (a b c d e f g h : ℕ)
    → inv_mix_column (bit_xor a e) (bit_xor b f) (bit_xor c g) (bit_xor d h)
    ≡ xor_bytes (inv_mix_column a b c d) (inv_mix_column e f g h)
unfolding inv_mix_column xor_bytes
inv_mix_column-xor a b c d e f g h =
    (λ t. row_times-xor 0x0e 0x0b 0x0d 0x09 a b c d e f g h t ∷ row_times-xor 0x09 0x0e 0x0b 0x0d a b c d e f g h t
    ∷ row_times-xor 0x0d 0x09 0x0e 0x0b a b c d e f g h t ∷ row_times-xor 0x0b 0x0d 0x09 0x0e a b c d e f g h t ∷ [])
