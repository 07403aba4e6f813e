use Rattle.std.proofs.Common.{arith}
use Rattle.aes_block.proofs.InverseRules.{bytes_doubled}
use Rattle.aes_block.proofs.inverse_schedule.doubled.Goals as goal

pub returns : goal.returns
returns c = bytes_doubled c.args.word (omega arith)
