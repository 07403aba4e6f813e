use Rattle.std.proofs.Common.{◌≡◌, ◌-◌, ◌≤◌, None, true}
use Rattle.io_edge.specs.Lines.{IsWithin}
use Rattle.card_core.specs.Card.{CardRepresents}
use Rattle.policy_machine.specs.State.{State}
use Rattle.line_runs.specs.Outside.{outside}
use Rattle.gp_tool.specs.Going.{Going}
use Rattle.gp_tool.specs.Standing.{standing_in}
use Rattle.gp_tool.proofs.run.take_lines.Given as goal

abbrev pub invariant-loop-ending : goal.invariant-loop-ending
invariant-loop-ending g l = record {
  stop : l.lines.stop ≡ None;
  within : IsWithin l.lines;
  live : l.end.card.live ≡ true;
  reads : (g.S.Source.state l.source).faults ≡ (g.S.Source.state l.fn.source).faults;
  writes : (g.K.Sink.state l.sink).faults ≡ (g.K.Sink.state l.fn.sink).faults;
  later : g.F.Flash.faults l.fn.end.card.flash ≤ g.F.Flash.faults l.end.card.flash;
  flushes : (g.K.Sink.state l.sink).flushes ≡ (g.K.Sink.state l.fn.sink).flushes;
  going : (first : State) → CardRepresents g.F.Flash l.fn.end.card first
      → Going l.verb g.F.Flash g.S.Source.tells g.K.Sink.tells first l.fn.end.card.flash
      (standing_in l.verb l.end l.space l.differs)
      (outside (g.S.Source.state l.fn.source) (g.K.Sink.state l.fn.sink))
      (outside (g.S.Source.state l.source) (g.K.Sink.state l.sink))
      l.lines;
}

abbrev pub decreases-loop-ending : goal.decreases-loop-ending
decreases-loop-ending g l = 67108864 - l.lines.passed
