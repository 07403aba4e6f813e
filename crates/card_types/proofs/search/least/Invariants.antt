use Rattle.card_types.proofs.LeastSoFar.{LeastBefore}
use Rattle.card_types.proofs.search.least.Given as goal

abbrev pub invariant-loop-slot : goal.invariant-loop-slot
invariant-loop-slot g l = LeastBefore (g.S.Search.fits l.search) (g.S.Search.order l.search) l.slots l.slot l.least
