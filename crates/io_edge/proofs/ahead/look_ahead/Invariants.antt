use Rattle.std.proofs.Common.{◌≡◌, ◌≤◌, ◌-◌, ◌++◌, length}
use Rattle.io_edge.proofs.ahead.look_ahead.Given as goal

abbrev pub invariant-loop-at : goal.invariant-loop-at
invariant-loop-at g l = record {
  within : length l.buffer.held ≤ l.room;
  faults : (g.S.Source.state l.source).faults ≡ (g.S.Source.state l.fn.source).faults;
  bytes : g.S.Source.tells → l.buffer.held ++ (g.S.Source.state l.source).left ≡ l.fn.buffer.held ++ (g.S.Source.state l.fn.source).left;
}

abbrev pub decreases-loop-at : goal.decreases-loop-at
decreases-loop-at g l = 524 - length l.buffer.held
