use Rattle.load_session.proofs.Writes.{AreWritten}
use Rattle.load_session.proofs.load_write.write_pages.Given as goal

abbrev pub invariant-loop-write : goal.invariant-loop-write
invariant-loop-write g l = AreWritten g.F.Flash l.fn.records l.writes l.write-index l.records
