use Rattle.access_matrix.proofs.FreeAids.{AreInSlots}
use Rattle.access_matrix.proofs.free_aid.free_aid.Given as goal

-- each AID with a lower number names something
abbrev pub invariant-loop-number : goal.invariant-loop-number
invariant-loop-number l = AreInSlots l.tables l.number
