use Rattle.std.proofs.Common.{arith}
use Rattle.aes_block.proofs.InverseRules.{inverted_none, inverted_more, inverted_all}
use Rattle.aes_block.proofs.inverse_schedule.invert.Goals as goal

pub word-init : goal.word-init
word-init c = inverted_none c.args.words.now c.copy_from_slice.new.self c.copy_from_slice.ensures.after

pub word-preserved : goal.word-preserved
word-preserved c = inverted_more c.args.words.now c.word.inverse c.word.i c.unmixed.result c.word.invariant c.word.auto.i (omega arith) c.unmixed.ensures

pub returns : goal.returns
returns c = inverted_all c.args.words.now c.word.inverse c.args.rounds c.word.i (omega (arith, c.word.auto.i-end)) c.word.invariant
