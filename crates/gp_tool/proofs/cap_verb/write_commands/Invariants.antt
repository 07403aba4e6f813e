use Rattle.std.proofs.Common.{◌≡◌, ℕ, List}
use Rattle.cap_pack.specs.Held.{IsCap, pack_of}
use Rattle.gp_tool.proofs.CapLines.{Waits, lines_of_first}
use Rattle.gp_tool.proofs.cap_verb.write_commands.Given as goal

abbrev pub invariant-loop-index : goal.invariant-loop-index
invariant-loop-index g l = record {
  waits : g.K.Sink.tells → (aids : List (List ℕ)) → IsCap l.cap aids
      → Waits (g.K.Sink.state l.fn.sink).written (g.K.Sink.state l.sink).written l.waiting.items (lines_of_first (pack_of l.cap aids) l.index);
  flushes : (g.K.Sink.state l.sink).flushes ≡ (g.K.Sink.state l.fn.sink).flushes;
  faults : (g.K.Sink.state l.sink).faults ≡ (g.K.Sink.state l.fn.sink).faults;
}
