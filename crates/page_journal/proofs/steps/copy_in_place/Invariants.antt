use Rattle.std.proofs.Common.{◌≡◌}
use Rattle.page_journal.specs.Phases.{IsInDescriptor, CopiesHome}
use Rattle.page_journal.specs.Touches.{Touches}
use Rattle.page_journal.proofs.steps.copy_in_place.Given as goal

abbrev pub invariant-loop-index : goal.invariant-loop-index
invariant-loop-index g l =
    let F = g.F.Flash in
    record {
      touched : F.tells → Touches F (IsInDescriptor l.descriptor.bytes) l.fn.flash l.flash;
      homes : F.tells → CopiesHome l.index l.descriptor.bytes (F.pages l.fn.flash) (F.pages l.flash);
      faults : F.faults l.flash ≡ F.faults l.fn.flash;
    }
