use Rattle.std.proofs.Common.{◌≡◌, ◌-◌, None}
use Rattle.io_edge.specs.Lines.{IsWithin}
use Rattle.line_runs.specs.Ends.{fault_counts}
use Rattle.line_runs.specs.Turn.{LinesGoing}
use Rattle.line_runs.specs.Outside.{outside}
use Rattle.line_runs.proofs.run.take_lines.Given as goal

abbrev pub invariant-loop-end : goal.invariant-loop-end
invariant-loop-end g l = record {
  stop : l.lines.stop ≡ None;
  within : IsWithin l.lines;
  quiet : fault_counts (g.S.Source.state l.source).faults (g.K.Sink.state l.sink).faults (g.T.LineTaker.does.faults l.taker)
      ≡ fault_counts (g.S.Source.state l.fn.source).faults (g.K.Sink.state l.fn.sink).faults (g.T.LineTaker.does.faults l.fn.taker);
  flushes : (g.K.Sink.state l.sink).flushes ≡ (g.K.Sink.state l.fn.sink).flushes;
  going : LinesGoing g.T.LineTaker.does g.S.Source.tells g.K.Sink.tells l.fn.taker l.taker
      (outside (g.S.Source.state l.fn.source) (g.K.Sink.state l.fn.sink))
      (outside (g.S.Source.state l.source) (g.K.Sink.state l.sink))
      l.lines;
}

abbrev pub decreases-loop-end : goal.decreases-loop-end
decreases-loop-end g l = 67108864 - l.lines.passed
