use Rattle.card_types.proofs.LeastSoFar.{NoneBefore}
use Rattle.card_types.proofs.search.first_that.Given as goal

abbrev pub invariant-loop-slot : goal.invariant-loop-slot
invariant-loop-slot g l = NoneBefore (g.W.Wants.fits l.wanted) l.slots l.slot
