use Rattle.aes_block.proofs.InverseRules.{InvertedUpTo}
use Rattle.aes_block.proofs.inverse_schedule.invert.Given as goal

abbrev pub invariant-word : goal.invariant-word
invariant-word l = InvertedUpTo l.words l.inverse l.i
