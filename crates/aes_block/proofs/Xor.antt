-- Laws of exclusive or.
use Rattle.std.proofs.Common.{◌≡◌, ℕ, ◌+◌, ◌*◌, ◌%◌, ◌<◌, bit_xor, sym, ap, ◌∙◌, inl, inr, arith}
use Rattle.std.proofs.lemmas.Bool.{cases_lt}
use Rattle.std.proofs.lemmas.Nat.{xor_comm, xor_block}
use lib.Bits.{xor_assoc, xor_self, xor_zero_r}

-- (a ^ b) ^ (c ^ d) with b and c exchanged
pub xor_middle : (a b c d : ℕ) → bit_xor (bit_xor a b) (bit_xor c d) ≡ bit_xor (bit_xor a c) (bit_xor b d)
xor_middle a b c d =
    xor_assoc a b (bit_xor c d)
    ∙ ap (bit_xor a) (sym (xor_assoc b c d) ∙ ap (λ (x : ℕ). bit_xor x d) (xor_comm b c) ∙ xor_assoc c b d)
    ∙ sym (xor_assoc a c (bit_xor b d))

pub xor_twice : (a b : ℕ) → bit_xor (bit_xor a b) b ≡ a
xor_twice a b = xor_assoc a b b ∙ ap (bit_xor a) (xor_self b) ∙ xor_zero_r a

-- the sum of four
abbrev pub four : ℕ → ℕ → ℕ → ℕ → ℕ
four a b c d = bit_xor (bit_xor a b) (bit_xor c d)

pub four-xor : (a b c d e f g h : ℕ)
    → bit_xor (four a b c d) (four e f g h) ≡ four (bit_xor a e) (bit_xor b f) (bit_xor c g) (bit_xor d h)
four-xor a b c d e f g h =
    xor_middle (bit_xor a b) (bit_xor c d) (bit_xor e f) (bit_xor g h)
    ∙ (λ i. bit_xor (xor_middle a b e f i) (xor_middle c d g h i))

pub double-xor : (a b : ℕ) → 2 * bit_xor a b ≡ bit_xor (2 * a) (2 * b)
double-xor a b =
    let ea : a * 2 + 0 ≡ 2 * a = omega arith in
    let eb : b * 2 + 0 ≡ 2 * b = omega arith in
    let e : bit_xor (a * 2 + 0) (b * 2 + 0) ≡ bit_xor a b * 2 + 0 = xor_block 1 a b 0 0 (omega arith) (omega arith) in
    let ee : 2 * bit_xor a b ≡ bit_xor a b * 2 + 0 = omega arith in
    ee ∙ sym e ∙ (λ i. bit_xor (ea i) (eb i))

-- a bit times a sum
pub bit-xor : (p a b : ℕ) → p < 2 → p * bit_xor a b ≡ bit_xor (p * a) (p * b)
bit-xor p a b h = elim (cases_lt p 1) [
  | inl lt ↦
      let e : p ≡ 0 = omega arith in
      let x : 0 * bit_xor a b ≡ 0 = omega arith in
      let y : 0 * a ≡ 0 = omega arith in
      let z : 0 * b ≡ 0 = omega arith in
      rw e (x ∙ (λ i. bit_xor (sym y i) (sym z i)))
  | inr ge ↦
      let e : p ≡ 1 = omega arith in
      let x : 1 * bit_xor a b ≡ bit_xor a b = omega arith in
      let y : 1 * a ≡ a = omega arith in
      let z : 1 * b ≡ b = omega arith in
      rw e (x ∙ (λ i. bit_xor (sym y i) (sym z i)))
]

-- the sum of two bits, times m
pub bits-xor : (p q m : ℕ) → p < 2 → q < 2 → (p + q) % 2 * m ≡ bit_xor (p * m) (q * m)
bits-xor p q m hp hq =
    let n0 : 0 * m ≡ 0 = omega arith in
    let n1 : 1 * m ≡ m = omega arith in
    elim (cases_lt p 1) [
      | inl a ↦
          let ep : p ≡ 0 = omega arith in
          let eq : (0 + q) % 2 ≡ q = omega arith in
          rw ep (ap (λ (x : ℕ). x * m) eq ∙ (λ i. bit_xor (sym n0 i) (q * m)))
      | inr a ↦
          let ep : p ≡ 1 = omega arith in
          elim (cases_lt q 1) [
            | inl b ↦
                let eq : q ≡ 0 = omega arith in
                rw (ep, eq) (n1 ∙ sym (xor_zero_r m) ∙ (λ i. bit_xor (sym n1 i) (sym n0 i)))
            | inr b ↦
                let eq : q ≡ 1 = omega arith in
                rw (ep, eq) (n0 ∙ sym (xor_self m) ∙ (λ i. bit_xor (sym n1 i) (sym n1 i)))
          ]
    ]
