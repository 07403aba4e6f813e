use Rattle.std.proofs.Common.{◌≡◌}
use Rattle.aes_block.specs.Inverse.{inv_state_after}
use Rattle.aes_block.specs.State.{state_bytes}
use Rattle.aes_block.proofs.rounds.unseal_rounds.Given as goal

abbrev pub invariant-loop-round : goal.invariant-loop-round
invariant-loop-round l = state_bytes l.state ≡ inv_state_after l.words l.rounds l.round l.block
