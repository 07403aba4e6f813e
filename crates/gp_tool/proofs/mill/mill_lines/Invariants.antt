use Rattle.std.proofs.Common.{◌≡◌, ◌≤◌, ◌+◌, ◌*◌, length, true}
use Rattle.card_core.specs.Card.{CardRepresents}
use Rattle.policy_machine.specs.State.{State}
use Rattle.script_tool.specs.Mill.{to_come}
use Rattle.script_tool.specs.Workload.{AreLines}
use Rattle.gp_tool.specs.Milling.{Milling}
use Rattle.gp_tool.proofs.mill.mill_lines.Given as goal

abbrev pub invariant-loop-mill : goal.invariant-loop-mill
invariant-loop-mill g l = record {
  live : l.end.card.live ≡ true;
  later : g.F.Flash.faults l.fn.end.card.flash ≤ g.F.Flash.faults l.end.card.flash;
  lines : AreLines (to_come l.mill);
  room : l.tally.success + l.tally.other + length (to_come l.mill) ≤ 10 * l.fn.work.rounds;
  milling : (first : State) → CardRepresents g.F.Flash l.fn.end.card first → Milling g.F.Flash l.fn.work first l.fn.end.card.flash l.end l.player l.tally (to_come l.mill);
}

abbrev pub decreases-loop-mill : goal.decreases-loop-mill
decreases-loop-mill g l = length (to_come l.mill)
