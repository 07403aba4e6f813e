use Rattle.std.proofs.Common.{◌≡◌, ◌≤◌, length, true}
use Rattle.cases.proofs.act.change_each.Given as goal

abbrev pub invariant-loop-made : goal.invariant-loop-made
invariant-loop-made g l = record { live : l.records.live ≡ true; staged : length l.records.staged ≤ l.made }
