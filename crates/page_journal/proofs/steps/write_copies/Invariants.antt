use Rattle.std.proofs.Common.{◌≡◌}
use Rattle.page_journal.specs.Phases.{IsCopy, CopiesOf}
use Rattle.page_journal.specs.Touches.{Touches}
use Rattle.page_journal.proofs.steps.write_copies.Given as goal

abbrev pub invariant-loop-index : goal.invariant-loop-index
invariant-loop-index g l =
    let F = g.F.Flash in
    record {
      touched : F.tells → Touches F IsCopy l.fn.flash l.flash;
      copies : F.tells → CopiesOf l.index l.pool (F.pages l.flash);
      faults : F.faults l.flash ≡ F.faults l.fn.flash;
    }
