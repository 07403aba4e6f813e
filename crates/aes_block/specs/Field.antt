-- Bytes as polynomials over two elements, modulo x^8 + x^4 + x^3 + x + 1 (FIPS 197, section 4).
use Rattle.std.specs.Prelude.{ℕ, zero, suc, ◌*◌, ◌/◌, ◌%◌, bit_xor}
use Rattle.std.specs.Int.{bit_at}

-- a times x (4.2)
unfoldable pub xtime : ℕ → ℕ
xtime a = bit_xor (2 * a) (bit_at a 7 * 0x11b)

-- the sum of the lowest n terms of a, each times b (4.2)
unfoldable pub times_terms : ℕ → ℕ → ℕ → ℕ
times_terms zero a b = 0
times_terms (suc n) a b = bit_xor (a % 2 * b) (times_terms n (a / 2) (xtime b))

-- a times b (4.2)
unfoldable pub times : ℕ → ℕ → ℕ
times a b = times_terms 8 a b

-- a to the power n
unfoldable pub power : ℕ → ℕ → ℕ
power a zero = 1
power a (suc n) = times a (power a n)
