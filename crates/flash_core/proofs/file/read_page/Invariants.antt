use Rattle.std.proofs.Common.{◌≤◌, ◌-◌}
use Rattle.flash_core.proofs.file.read_page.Given as goal

abbrev pub invariant-loop-done : goal.invariant-loop-done
invariant-loop-done l = l.done ≤ 256

abbrev pub decreases-loop-done : goal.decreases-loop-done
decreases-loop-done l = 256 - l.done
