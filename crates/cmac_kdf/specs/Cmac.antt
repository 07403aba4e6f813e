-- CMAC (NIST SP 800-38B) with a block of sixteen bytes. A key is given by its bytes.
use Rattle.std.specs.Prelude.{ℕ, ◌-◌, ◌*◌, ◌/◌, ◌%◌, ◌^◌, ◌==◌, nat_le, if◌then◌else◌, List, [], ◌∷◌, ◌++◌, length, drop, replicate, slice_index}
use Rattle.std.specs.Int.{w128, from_be_bytes, to_be_bytes}
use Rattle.aes_block.specs.Cipher.{cipher, xor_bytes}
use Rattle.cmac_kdf.specs.Blocks.{zero_block, first_blocks, padded}

-- X << 1, of the 128 bits of a block: the first is dropped, and a 0 comes last (4.2)
unfoldable pub shifted_left : List ℕ → List ℕ
shifted_left x = to_be_bytes w128 (2 * from_be_bytes w128 x % 2 ^ 128)

-- R128: the constant of the field of the blocks (5.3)
abbrev pub field_constant : List ℕ
field_constant = replicate 15 0 ++ 0x87 ∷ []

-- the block times x: shifted, and R128 added where its first bit was 1 (6.1, steps 2 and 3)
unfoldable pub double : List ℕ → List ℕ
double x = if nat_le 128 (slice_index x 0) then xor_bytes (shifted_left x) field_constant else shifted_left x

-- K1 (6.1)
unfoldable pub first_subkey : List ℕ → List ℕ
first_subkey key = double (cipher key zero_block)

-- K2 (6.1)
unfoldable pub second_subkey : List ℕ → List ℕ
second_subkey key = double (first_subkey key)

-- the chaining value c after further blocks: Ci is the cipher of Ci-1 xor Mi (6.2, steps 5 and 6)
unfoldable pub chained : List ℕ → List ℕ → List (List ℕ) → List ℕ
chained key c [] = c
chained key c (m ∷ ms) = chained key (cipher key (xor_bytes c m)) ms

-- how many blocks stand before the last, which is empty for the empty message alone (6.2, steps 2 and 3)
abbrev pub blocks_before_last : List ℕ → ℕ
blocks_before_last message = (length message - 1) / 16

-- Mn*: the bytes from the last block on (6.2, step 3)
abbrev pub last_bytes : List ℕ → List ℕ
last_bytes message = drop (16 * blocks_before_last message) message

-- Mn: K1 xor a whole last block, or K2 xor a cut one with its padding (6.2, step 4)
unfoldable pub last_block : List ℕ → List ℕ → List ℕ
last_block key bytes =
    if length bytes == 16 then xor_bytes (first_subkey key) bytes else xor_bytes (second_subkey key) (padded bytes)

-- the CMAC of a message, at its full length (6.2)
unfoldable pub cmac : List ℕ → List ℕ → List ℕ
cmac key message =
    chained key zero_block (first_blocks (blocks_before_last message) message ++ last_block key (last_bytes message) ∷ [])
