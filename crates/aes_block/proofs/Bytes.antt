-- A rule of each byte, from one computation over all 256; and which operations give bytes.
use Rattle.std.proofs.Common.{◌≡◌, ℕ, zero, suc, ◌+◌, ◌*◌, ◌/◌, ◌%◌, ◌^◌, ◌<◌, List, map, get_or, slice_index, refl, sym, ap, ◌∙◌, arith, inl, inr, mod-lt}
use Rattle.std.specs.List.{range_with_len}
use Rattle.std.proofs.lemmas.List.FromFn.{get_or-map-range_with_len}
use Rattle.std.proofs.lemmas.Bool.{cases_lt}
use Rattle.std.proofs.Math.Nat.{pow-suc}
use Rattle.std.proofs.lemmas.Nat.{xor_lt}
use Rattle.std.proofs.lemmas.Nat.Bits.{bit_at-lt}
use Rattle.aes_block.specs.Field.{xtime, times, times_terms, power}
use Rattle.aes_block.specs.Sbox.{sbox, affine, affine_bit}

-- all bytes, in order
abbrev pub bytes : List ℕ
bytes = range_with_len 0 256

-- a table made of f has f's value at each byte
pub table_at : (f : ℕ → ℕ) (table : List ℕ) → map f bytes ≡ table → (x : ℕ) → x < 256 → slice_index table x ≡ f x
table_at f table e x h = rw (← e) (get_or-map-range_with_len f 0 256 x x 0 h (omega arith))

-- functions that agree on the list of the numbers below n agree at each
pub same_below : (n : ℕ) (f g : ℕ → ℕ) → map f (range_with_len 0 n) ≡ map g (range_with_len 0 n) → (x : ℕ) → x < n → f x ≡ g x
same_below n f g e x h =
    sym (get_or-map-range_with_len f 0 n x x 0 h (omega arith)) ∙ ap (λ (l : List ℕ). get_or l x 0) e
    ∙ get_or-map-range_with_len g 0 n x x 0 h (omega arith)

-- functions that agree on the list of all bytes agree at each byte
pub same_at : (f g : ℕ → ℕ) → map f bytes ≡ map g bytes → (x : ℕ) → x < 256 → f x ≡ g x
same_at f g e x h = same_below 256 f g e x h

pub affine_bit-lt : (b i : ℕ) → affine_bit b i < 2
unfolding affine_bit
affine_bit-lt b i =
    let lt = λ (j : ℕ). bit_at-lt b j in
    xor_lt 1 _ _
    (xor_lt 1 _ _ (xor_lt 1 _ _ (lt i) (lt ((i + 4) % 8))) (xor_lt 1 _ _ (lt ((i + 5) % 8)) (lt ((i + 6) % 8))))
    (xor_lt 1 _ _ (lt ((i + 7) % 8)) (bit_at-lt 0x63 i))

pow_two : (n : ℕ) → 2 ^ suc n ≡ 2 ^ n + 2 ^ n
pow_two n = omega (arith, pow-suc 2 n)

pub affine-lt : (b n : ℕ) → affine b n < 2 ^ n
unfolding affine
affine-lt b zero = omega arith
affine-lt b (suc n) =
    let one : affine_bit b n < 2 = affine_bit-lt b n in
    let rest : affine b n < 2 ^ n = affine-lt b n in
    elim (cases_lt (affine_bit b n) 1) [
      | inl lt ↦
          let e : affine_bit b n ≡ 0 = omega arith in
          rw e (omega (arith, pow_two n))
      | inr ge ↦
          let e : affine_bit b n ≡ 1 = omega arith in
          rw e (omega (arith, pow_two n))
    ]

pub sbox-lt : (x : ℕ) → sbox x < 256
unfolding sbox
sbox-lt x = affine-lt (power x 254) 8

xtime-lt : (a : ℕ) → a < 256 → xtime a < 256
unfolding xtime
xtime-lt a h = rw (same_at xtime (λ x. xtime x % 256) refl a h) (mod-lt (xtime a) (omega arith))

times_terms-lt : (n c b : ℕ) → b < 256 → times_terms n c b < 256
unfolding times_terms
times_terms-lt zero c b h = omega arith
times_terms-lt (suc n) c b h =
    let first : c % 2 * b < 256 = elim (cases_lt (c % 2) 1) [
      | inl lt ↦ let e : c % 2 ≡ 0 = omega arith in rw e (omega arith)
      | inr ge ↦ let e : c % 2 ≡ 1 = omega arith in rw e (omega arith)
    ] in
    xor_lt 8 (c % 2 * b) (times_terms n (c / 2) (xtime b)) first (times_terms-lt n (c / 2) (xtime b) (xtime-lt b h))

pub times-lt : (c b : ℕ) → b < 256 → times c b < 256
unfolding times
times-lt c b h = times_terms-lt 8 c b h
