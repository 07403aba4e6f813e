use Rattle.std.proofs.Common.{◌≡◌, length}
use Rattle.host_tool.proofs.Pieces.{Partly}
use Rattle.host_tool.proofs.command_line.write_command.Given as goal

abbrev pub invariant-loop-rest : goal.invariant-loop-rest
invariant-loop-rest g l = record {
  partly : g.K.Sink.tells → Partly l.command l.rest (g.K.Sink.state l.fn.sink).written (g.K.Sink.state l.sink).written;
  faults : (g.K.Sink.state l.sink).faults ≡ (g.K.Sink.state l.fn.sink).faults;
}

abbrev pub decreases-loop-rest : goal.decreases-loop-rest
decreases-loop-rest g l = length l.rest
