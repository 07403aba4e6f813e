-- The bits of a byte, the highest first.
use Rattle.std.proofs.Common.{◌≡◌, ◌+◌, ◌*◌, ◌-◌, ◌/◌, ◌%◌, ◌^◌, ◌<◌, ◌≤◌, ℕ, zero, suc, refl, arith}

abbrev pub byte_of : (a b c d e f g h : ℕ) → ℕ
byte_of a b c d e f g h = 128 * a + 64 * b + 32 * c + 16 * d + 8 * e + 4 * f + 2 * g + h

-- the bit of i, of those that stand in this byte of a bit map
pub bit_of_eight : (a b c d e f g h : ℕ) → a ≤ 1 → b ≤ 1 → c ≤ 1 → d ≤ 1 → e ≤ 1 → f ≤ 1 → g ≤ 1 → h ≤ 1 → (at bit : ℕ) → at < 8
    → (at ≡ 0 → a ≡ bit) → (at ≡ 1 → b ≡ bit) → (at ≡ 2 → c ≡ bit) → (at ≡ 3 → d ≡ bit) → (at ≡ 4 → e ≡ bit) → (at ≡ 5 → f ≡ bit) → (at ≡ 6 → g ≡ bit) → (at ≡ 7 → h ≡ bit)
    → byte_of a b c d e f g h / 2 ^ (7 - at) % 2 ≡ bit
bit_of_eight a b c d e f g h a1 b1 c1 d1 e1 f1 g1 h1 zero bit lt p0 p1 p2 p3 p4 p5 p6 p7 = let is = p0 refl in omega arith
bit_of_eight a b c d e f g h a1 b1 c1 d1 e1 f1 g1 h1 (suc zero) bit lt p0 p1 p2 p3 p4 p5 p6 p7 = let is = p1 refl in omega arith
bit_of_eight a b c d e f g h a1 b1 c1 d1 e1 f1 g1 h1 (suc (suc zero)) bit lt p0 p1 p2 p3 p4 p5 p6 p7 = let is = p2 refl in omega arith
bit_of_eight a b c d e f g h a1 b1 c1 d1 e1 f1 g1 h1 (suc (suc (suc zero))) bit lt p0 p1 p2 p3 p4 p5 p6 p7 = let is = p3 refl in omega arith
bit_of_eight a b c d e f g h a1 b1 c1 d1 e1 f1 g1 h1 (suc (suc (suc (suc zero)))) bit lt p0 p1 p2 p3 p4 p5 p6 p7 = let is = p4 refl in omega arith
bit_of_eight a b c d e f g h a1 b1 c1 d1 e1 f1 g1 h1 (suc (suc (suc (suc (suc zero))))) bit lt p0 p1 p2 p3 p4 p5 p6 p7 = let is = p5 refl in omega arith
bit_of_eight a b c d e f g h a1 b1 c1 d1 e1 f1 g1 h1 (suc (suc (suc (suc (suc (suc zero)))))) bit lt p0 p1 p2 p3 p4 p5 p6 p7 = let is = p6 refl in omega arith
bit_of_eight a b c d e f g h a1 b1 c1 d1 e1 f1 g1 h1 (suc (suc (suc (suc (suc (suc (suc zero))))))) bit lt p0 p1 p2 p3 p4 p5 p6 p7 = let is = p7 refl in omega arith
bit_of_eight a b c d e f g h a1 b1 c1 d1 e1 f1 g1 h1 (suc (suc (suc (suc (suc (suc (suc (suc at)))))))) bit lt p0 p1 p2 p3 p4 p5 p6 p7 = absurd (omega (arith, lt))
