use Rattle.std.proofs.Common.{◌≡◌}
use Rattle.page_journal.specs.Phases.{IsStaged, HomesOf}
use Rattle.page_journal.specs.Touches.{Touches}
use Rattle.page_journal.proofs.steps.put_in_place.Given as goal

abbrev pub invariant-loop-index : goal.invariant-loop-index
invariant-loop-index g l =
    let F = g.F.Flash in
    record {
      touched : F.tells → Touches F (IsStaged l.pool) l.fn.flash l.flash;
      homes : F.tells → HomesOf l.index l.pool (F.pages l.flash);
      faults : F.faults l.flash ≡ F.faults l.fn.flash;
    }
