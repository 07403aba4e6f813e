use Rattle.std.proofs.Common.{◌≡◌, ℕ, List}
use Rattle.access_matrix.specs.Walks.{rights_left}
use Rattle.card_types.specs.Registry.{Registry}
use Rattle.card_types.specs.Represents.{Represents}
use Rattle.gp_tool.proofs.RightsWritten.{Written}
use Rattle.gp_tool.proofs.rights.write_rights.Given as goal

abbrev pub invariant-loop-walk : goal.invariant-loop-walk
invariant-loop-walk g l = record {
  written : (page : ℕ → List ℕ) (said : Registry) → Represents page l.tables said
      → Written said g.K.Sink.tells l.walk.last (g.K.Sink.state l.fn.sink).written (g.K.Sink.state l.sink).written;
  flushes : (g.K.Sink.state l.sink).flushes ≡ (g.K.Sink.state l.fn.sink).flushes;
  faults : (g.K.Sink.state l.sink).faults ≡ (g.K.Sink.state l.fn.sink).faults;
}

abbrev pub decreases-loop-walk : goal.decreases-loop-walk
decreases-loop-walk g l = rights_left l.tables l.walk.last
