-- Key derivation in counter mode (NIST SP 800-108, 5.1) with CMAC, as SCP03 lays out its input (GlobalPlatform Amendment D, 4.1.5).
use Rattle.std.specs.Prelude.{ℕ, zero, suc, ◌+◌, ◌/◌, List, [], ◌∷◌, ◌++◌, take, replicate}
use Rattle.std.specs.Int.{w16, to_be_bytes}
use Rattle.cmac_kdf.specs.Cmac.{cmac}

-- the input of round i: a label of eleven 00 and the constant, 00, the length in bits in two bytes, the counter, and the context
unfoldable pub derivation_data : ℕ → ℕ → List ℕ → ℕ → List ℕ
derivation_data constant bits context i =
    replicate 11 0 ++ constant ∷ 0 ∷ to_be_bytes w16 bits ++ i ∷ context

-- K(1) to K(n), joined (SP 800-108, 5.1, step 4)
unfoldable pub derived_blocks : List ℕ → ℕ → ℕ → List ℕ → ℕ → List ℕ
derived_blocks key constant bits context zero = []
derived_blocks key constant bits context (suc n) =
    derived_blocks key constant bits context n ++ cmac key (derivation_data constant bits context (suc n))

-- the leftmost bits, a multiple of 8, of as many rounds of 128 bits as these take (SP 800-108, 5.1, steps 1 and 5)
unfoldable pub kdf : List ℕ → ℕ → ℕ → List ℕ → List ℕ
kdf key constant bits context = take (bits / 8) (derived_blocks key constant bits context ((bits + 127) / 128))
