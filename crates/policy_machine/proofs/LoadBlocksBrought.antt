-- What a block brings to an Executable Load File.
use Rattle.std.proofs.Common.{◌≡◌, ◌≢◌, ℕ, ◌≤◌, List, ◌∷◌, ◌++◌, Option, None, Some, sym, ◌∙◌, inl, inr, arith}
use Rattle.std.proofs.lemmas.Bool.{cases_lt}
use Rattle.bertlv.proofs.LengthLemmas.{length_front}
use Rattle.policy_machine.specs.Prelude.{Announces, Block, BringsBytes, IsAnnounced}

one_announced : (field : List ℕ) (m n : ℕ) (a b : List ℕ) → Announces field m a → Announces field n b → (m ≡ n) × (a ≡ b)
one_announced field m n a b one other =
    let joined : 0xC4 ∷ one.length_field ++ a ≡ 0xC4 ∷ other.length_field ++ b = sym one.joined ∙ other.joined in
    let behind : one.length_field ++ a ≡ other.length_field ++ b = cc in
    let same = length_front m n one.length_field other.length_field a b one.spells other.spells behind in
    (same.0, same.2)

-- a block brings one thing
pub one_brought : (announced : Option ℕ) (block : Block) (m n : ℕ) (a b : List ℕ) → BringsBytes announced block m a → BringsBytes announced block n b
    → (m ≡ n) × (a ≡ b)
one_brought None block m n a b one other = one_announced block.field m n a b one other
one_brought (Some size) block m n a b one other = (one.0 ∙ sym other.0, one.1 ∙ sym other.1)

not_none : (n : ℕ) → n ≢ 0 → 1 ≤ n
not_none n some = elim (cases_lt 0 n) [ inl above ↦ omega arith | inr none ↦ absurd (some (omega arith)) ]

-- to a file of a byte at least
pub some_announced : (announced : Option ℕ) (block : Block) (blocks size : ℕ) (bytes : List ℕ) → IsAnnounced blocks announced → BringsBytes announced block size bytes
    → 1 ≤ size
some_announced None block blocks size bytes before brings = not_none size brings.some
some_announced (Some announced) block blocks size bytes before brings = (let same = brings.0 in let some = before.1 in omega (arith, same, some))
