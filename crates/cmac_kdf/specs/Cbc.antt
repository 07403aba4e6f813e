-- The mode CBC (NIST SP 800-38A, 6.2).
use Rattle.std.specs.Prelude.{ℕ, List, [], ◌∷◌, ◌++◌}
use Rattle.aes_block.specs.Cipher.{cipher, xor_bytes}
use Rattle.cmac_kdf.specs.Blocks.{blocks, padded}

-- Ci is the cipher of Pi xor Ci-1, with c as the first Ci-1; the blocks Ci are joined
unfoldable pub cbc_blocks : List ℕ → List ℕ → List (List ℕ) → List ℕ
cbc_blocks key c [] = []
cbc_blocks key c (p ∷ ps) = cipher key (xor_bytes p c) ++ cbc_blocks key (cipher key (xor_bytes p c)) ps

-- CBC encryption of whole blocks, with the initial chaining vector
unfoldable pub cbc : List ℕ → List ℕ → List ℕ → List ℕ
cbc key icv bytes = cbc_blocks key icv (blocks bytes)

-- the bytes, padded and encrypted
unfoldable pub sealed : List ℕ → List ℕ → List ℕ → List ℕ
sealed key icv bytes = cbc key icv (padded bytes)
