-- Lists of bytes, their blocks of sixteen, and the padding of the last one (NIST SP 800-38B, 6.2).
use Rattle.std.specs.Prelude.{ℕ, ◌+◌, ◌-◌, ◌*◌, ◌/◌, ◌%◌, ◌^◌, ◌<◌, List, ◌∷◌, ◌++◌, length, replicate, slice_index}
use Rattle.std.specs.Simd.{first_chunks}

-- a list of bytes
pub record IsBytes (bytes : List ℕ) : Type 0 where
  pub at : (i : ℕ) → slice_index bytes i < 2 ^ 8

-- the block of zeros
abbrev pub zero_block : List ℕ
zero_block = replicate 16 0

-- the first n blocks
abbrev pub first_blocks : ℕ → List ℕ → List (List ℕ)
first_blocks n bytes = first_chunks 16 n bytes

-- the whole blocks, in order
abbrev pub blocks : List ℕ → List (List ℕ)
blocks bytes = first_blocks (length bytes / 16) bytes

-- the bytes, 80 and the fewest 00 that give whole blocks (ISO/IEC 9797-1, padding method 2)
unfoldable pub padded : List ℕ → List ℕ
padded bytes = bytes ++ 0x80 ∷ replicate (15 - length bytes % 16) 0

-- the length of n bytes with their padding
abbrev pub padded_length : ℕ → ℕ
padded_length n = 16 * (n / 16 + 1)
