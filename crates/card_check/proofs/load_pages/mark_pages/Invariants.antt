use Rattle.std.proofs.Common.{ℕ, List, ◌++◌, take}
use Rattle.card_check.specs.LoadPages.{AreLoadPages, HasMarks}
use Rattle.card_check.proofs.LoadPagesNamed.{AreMarked}
use Rattle.card_check.proofs.load_pages.mark_pages.Given as goal

abbrev pub invariant-loop-page : goal.invariant-loop-page
invariant-loop-page l =
    (before : List ℕ) → HasMarks l.initial.marks before → AreLoadPages before → AreMarked l.marks (before ++ take l.page-index l.pages)
