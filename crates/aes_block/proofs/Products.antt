-- A product with a fixed byte goes through exclusive or.
use Rattle.std.proofs.Common.{◌≡◌, ℕ, zero, suc, ◌*◌, ◌/◌, ◌%◌, ◌<◌, bit_xor, refl, ap, ◌∙◌, arith}
use Rattle.std.specs.Int.{bit_at}
use Rattle.std.proofs.lemmas.Nat.Bits.{bit_at-lt, bit_at_xor}
use Rattle.aes_block.specs.Field.{xtime, times, times_terms}
use Rattle.aes_block.proofs.Xor.{xor_middle, double-xor, bit-xor, bits-xor}

xtime-xor : (a b : ℕ) → xtime (bit_xor a b) ≡ bit_xor (xtime a) (xtime b)
unfolding xtime
xtime-xor a b =
    let low : 2 * bit_xor a b ≡ bit_xor (2 * a) (2 * b) = double-xor a b in
    let high : bit_at (bit_xor a b) 7 * 0x11b ≡ bit_xor (bit_at a 7 * 0x11b) (bit_at b 7 * 0x11b) =
    ap (λ (x : ℕ). x * 0x11b) (bit_at_xor a b 7) ∙ bits-xor (bit_at a 7) (bit_at b 7) 0x11b (bit_at-lt a 7) (bit_at-lt b 7) in
    (λ i. bit_xor (low i) (high i)) ∙ xor_middle (2 * a) (2 * b) (bit_at a 7 * 0x11b) (bit_at b 7 * 0x11b)

times_terms-xor : (n c a b : ℕ) → times_terms n c (bit_xor a b) ≡ bit_xor (times_terms n c a) (times_terms n c b)
unfolding times_terms
times_terms-xor zero c a b = refl
times_terms-xor (suc n) c a b =
    let bit : c % 2 < 2 = omega arith in
    let rest : times_terms n (c / 2) (xtime (bit_xor a b)) ≡ bit_xor (times_terms n (c / 2) (xtime a)) (times_terms n (c / 2) (xtime b)) =
    ap (times_terms n (c / 2)) (xtime-xor a b) ∙ times_terms-xor n (c / 2) (xtime a) (xtime b) in
    (λ i. bit_xor (bit-xor (c % 2) a b bit i) (rest i))
    ∙ xor_middle (c % 2 * a) (c % 2 * b) (times_terms n (c / 2) (xtime a)) (times_terms n (c / 2) (xtime b))

pub times-xor : (c a b : ℕ) → times c (bit_xor a b) ≡ bit_xor (times c a) (times c b)
unfolding times
times-xor c a b = times_terms-xor 8 c a b
