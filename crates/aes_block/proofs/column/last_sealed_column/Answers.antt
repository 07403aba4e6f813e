use Rattle.std.proofs.Common.{ap, ◌∙◌, ℕ, List, arith}
use Rattle.aes_block.specs.Words.{word_bytes}
use Rattle.aes_block.specs.Cipher.{xor_bytes}
use Rattle.aes_block.proofs.WordRules.{word_bytes-from, word_bytes-xor}
use Rattle.aes_block.proofs.column.last_sealed_column.Goals as goal

pub returns : goal.returns
returns c =
    let bytes = word_bytes-from c.substitute.result c.substitute-2.result c.substitute-3.result c.substitute-4.result c.from_be_bytes.result
    (omega arith) (omega arith) (omega arith) (omega arith) c.from_be_bytes.ensures in
    word_bytes-xor c.from_be_bytes.result c.args.key
    ∙ ap (λ (s : List ℕ). xor_bytes s (word_bytes c.args.key))
    (rw (← c.first.ensures.value, ← c.second.ensures.value, ← c.third.ensures.value, ← c.fourth.ensures.value, ← c.substitute.ensures, ← c.substitute-2.ensures, ← c.substitute-3.ensures, ← c.substitute-4.ensures) bytes)
