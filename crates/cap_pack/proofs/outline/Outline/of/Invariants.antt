use Rattle.std.proofs.Common.{length}
use Rattle.cap_pack.proofs.OutlineRules.{Walked}
use Rattle.cap_pack.proofs.outline.Outline.of.Given as goal

abbrev pub invariant-loop-component : goal.invariant-loop-component
invariant-loop-component l = Walked l.bytes l.rest l.outline

abbrev pub decreases-loop-component : goal.decreases-loop-component
decreases-loop-component l = length l.rest
