use Rattle.domain_tree.proofs.Climb.{IsReached}
use Rattle.domain_tree.proofs.walk.first_above.Given as goal

abbrev pub invariant-loop : goal.invariant-loop
invariant-loop g l = IsReached l.entries (g.S.Wanted.fits l.wanted) l.slot l.at l.counter
