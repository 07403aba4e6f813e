use Rattle.std.proofs.Common.{◌≡◌}
use Rattle.aes_block.specs.Cipher.{state_after}
use Rattle.aes_block.specs.State.{state_bytes}
use Rattle.aes_block.proofs.rounds.seal_rounds.Given as goal

abbrev pub invariant-loop-round : goal.invariant-loop-round
invariant-loop-round l = state_bytes l.state ≡ state_after l.words l.round l.block
