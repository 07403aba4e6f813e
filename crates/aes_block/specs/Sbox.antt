-- The substitution of a byte (FIPS 197, 5.1.1).
use Rattle.std.specs.Prelude.{ℕ, zero, suc, ◌+◌, ◌*◌, ◌%◌, ◌^◌, bit_xor}
use Rattle.std.specs.Int.{bit_at}
use Rattle.aes_block.specs.Field.{power}

-- bit i of the affine map's value at b (5.1.1, equation 5.3)
unfoldable pub affine_bit : ℕ → ℕ → ℕ
affine_bit b i =
    bit_xor (bit_xor (bit_xor (bit_at b i) (bit_at b ((i + 4) % 8))) (bit_xor (bit_at b ((i + 5) % 8)) (bit_at b ((i + 6) % 8))))
    (bit_xor (bit_at b ((i + 7) % 8)) (bit_at 0x63 i))

-- the lowest n bits of the affine map's value at b
unfoldable pub affine : ℕ → ℕ → ℕ
affine b zero = 0
affine b (suc n) = affine b n + affine_bit b n * 2 ^ n

-- the inverse of a, which is its power 254 (4.4), under the affine map
unfoldable pub sbox : ℕ → ℕ
sbox a = affine (power a 254) 8
