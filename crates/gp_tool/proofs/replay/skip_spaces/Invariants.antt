use Rattle.std.proofs.Common.{length}
use Rattle.gp_tool.proofs.Spaces.{IsSkipped}
use Rattle.gp_tool.proofs.replay.skip_spaces.Given as goal

abbrev pub invariant-loop-rest : goal.invariant-loop-rest
invariant-loop-rest l = IsSkipped l.text l.rest

abbrev pub decreases-loop-rest : goal.decreases-loop-rest
decreases-loop-rest l = length l.rest
