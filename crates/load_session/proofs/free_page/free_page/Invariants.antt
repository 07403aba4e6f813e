use Rattle.std.proofs.Common.{ℕ, ◌-◌, ◌<◌}
use Rattle.load_session.specs.Prelude.{IsLoadPage, IsPageInUse}
use Rattle.flash_core.specs.declared.page.TheConstants.{PAGES}
use Rattle.page_journal.proofs.PageKinds.{IsPastJournal}
use Rattle.load_session.proofs.free_page.free_page.Given as goal

abbrev pub invariant-loop-marks : goal.invariant-loop-marks
invariant-loop-marks l = record {
  is : IsLoadPage l.page;
  used : (page : ℕ) → IsPastJournal page → page < l.page → IsPageInUse l.tables l.taken page;
}

abbrev pub decreases-loop-marks : goal.decreases-loop-marks
decreases-loop-marks l = PAGES - l.page
