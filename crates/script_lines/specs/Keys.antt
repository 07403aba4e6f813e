-- Keys of AES, as lines write them.
use Rattle.std.specs.Prelude.{ℕ, List, [], ◌∷◌}
use Rattle.script_lines.specs.Words.{SpellsSome}
use Rattle.script_lines.specs.declared.keys.OfSize.{OfSize}
use Rattle.script_lines.specs.declared.keys.OfSize.TheVariants.{Aes128, Aes192, Aes256}
use Rattle.script_lines.specs.declared.keys.Trio.{Trio}

-- a key of 16, 24 or 32 bytes
unfoldable pub SpellsKey : List ℕ → OfSize (List ℕ) (List ℕ) (List ℕ) → Type 0
SpellsKey word (Aes128 key) = SpellsSome 16 word key
SpellsKey word (Aes192 key) = SpellsSome 24 word key
SpellsKey word (Aes256 key) = SpellsSome 32 word key

-- Key-ENC, Key-MAC and Key-DEK of so many bytes each
abbrev pub SpellTrio : (size : ℕ) → List (List ℕ) → Trio size → Type 0
SpellTrio size (enc ∷ mac ∷ dek ∷ []) keys = SpellsSome size enc keys.enc × SpellsSome size mac keys.mac × SpellsSome size dek keys.dek
SpellTrio size _ keys = ⊥

-- `keys ENC MAC DEK`: the static keys of later sessions, of one length
abbrev pub SpellKeys : List (List ℕ) → OfSize (Trio 16) (Trio 24) (Trio 32) → Type 0
SpellKeys words (Aes128 keys) = SpellTrio 16 words keys
SpellKeys words (Aes192 keys) = SpellTrio 24 words keys
SpellKeys words (Aes256 keys) = SpellTrio 32 words keys
