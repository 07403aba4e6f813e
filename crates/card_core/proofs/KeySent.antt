-- A key in the blocks that it was sent in.
use Rattle.std.proofs.Common.{◌≡◌, ◌∙◌, ◌≤◌, ℕ, List, ◌++◌, ap, drop, inl, inr, length, subst, sym, take, arith}
use Rattle.std.proofs.lemmas.List.{length-take-le, take-append-drop}
use Rattle.card_core.specs.Prelude.{IsBytes, IsKeyLength, IsKeySent, SentKey, cbc, sealed_size, zero_block}

-- a key has no more bytes than its blocks
within_blocks : (size : ℕ) → IsKeyLength size → size ≤ sealed_size size
within_blocks size (inl is) = omega (arith, is)
within_blocks size (inr (inl is)) = omega (arith, is)
within_blocks size (inr (inr is)) = omega (arith, is)

-- deciphered blocks begin with the key that was sent
pub front_sent : (dek : List ℕ) (sent : SentKey) (blocks key : List ℕ) → IsKeyLength sent.size → IsBytes blocks → length blocks ≡ length sent.sealed
    → length sent.sealed ≡ sealed_size sent.size → cbc dek zero_block blocks ≡ sent.sealed → key ≡ take sent.size blocks → IsKeySent dek sent key
front_sent dek sent blocks key size bytes as_long whole sealed is =
    let joined : key ++ drop sent.size blocks ≡ blocks = ap (λ (k : List ℕ). k ++ drop sent.size blocks) is ∙ take-append-drop sent.size blocks in
    let within = within_blocks sent.size size in
    record {
      fill = drop sent.size blocks;
      bytes = subst IsBytes (sym joined) bytes;
      size = ap length is ∙ length-take-le sent.size blocks (omega (arith, within, as_long, whole));
      whole = ap length joined ∙ as_long ∙ whole;
      sealed = ap (cbc dek zero_block) joined ∙ sealed;
    }
