use Rattle.std.proofs.Common.{◌≡◌, length}
use Rattle.std.specs.Prelude.{All}
use Rattle.page_journal.specs.Pages.{IsLoadPage}
use Rattle.case_cards.proofs.made.load_pages.Given as goal

abbrev pub invariant-loop-place : goal.invariant-loop-place
invariant-loop-place l = (length l.pages ≡ 128) × All IsLoadPage l.pages
