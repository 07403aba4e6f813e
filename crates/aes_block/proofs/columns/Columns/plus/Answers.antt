use Rattle.std.proofs.Common.{◌++◌}
use Rattle.aes_block.specs.Words.{word_bytes}
use Rattle.aes_block.specs.Cipher.{xor_bytes}
use Rattle.aes_block.specs.State.{state_bytes}
use Rattle.aes_block.proofs.WordRules.{word_bytes-xor}
use Rattle.aes_block.proofs.columns.Columns.plus.Goals as goal

pub returns : goal.returns
unfolding state_bytes word_bytes xor_bytes
returns c =
    let s = c.args.self in
    let k = c.args.key in
    (λ i. word_bytes-xor s.a k.a i ++ word_bytes-xor s.b k.b i ++ word_bytes-xor s.c k.c i ++ word_bytes-xor s.d k.d i)
