use Rattle.std.proofs.Common.{arith}
use Rattle.aes_block.proofs.InverseRules.{word_unmixed}
use Rattle.aes_block.proofs.inverse_schedule.unmixed.Goals as goal

pub returns : goal.returns
returns c =
    word_unmixed c.args.word c.doubled-two.result c.doubled-four.result c.doubled-eight.result (omega arith) (omega arith) (omega arith) (omega arith)
    c.doubled-two.ensures c.doubled-four.ensures c.doubled-eight.ensures _ _ _ c.rotate_right.ensures c.rotate_right-2.ensures c.rotate_right-3.ensures
