use Rattle.std.proofs.Common.{ap, ◌∙◌, ℕ, List, arith}
use Rattle.aes_block.specs.Words.{word_bytes}
use Rattle.aes_block.specs.Cipher.{xor_bytes}
use Rattle.aes_block.proofs.WordRules.{word_bytes-from, word_bytes-xor}
use Rattle.aes_block.proofs.column.last_unsealed_column.Goals as goal

pub returns : goal.returns
returns c =
    let bytes = word_bytes-from c.substitute_back.result c.substitute_back-2.result c.substitute_back-3.result c.substitute_back-4.result c.from_be_bytes.result
    (omega arith) (omega arith) (omega arith) (omega arith) c.from_be_bytes.ensures in
    word_bytes-xor c.from_be_bytes.result c.args.key
    ∙ ap (λ (s : List ℕ). xor_bytes s (word_bytes c.args.key))
    (rw (← c.first.ensures.value, ← c.second.ensures.value, ← c.third.ensures.value, ← c.fourth.ensures.value, ← c.substitute_back.ensures, ← c.substitute_back-2.ensures, ← c.substitute_back-3.ensures, ← c.substitute_back-4.ensures) bytes)
