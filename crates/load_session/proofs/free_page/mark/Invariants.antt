use Rattle.std.proofs.Common.{ℕ, List, ◌++◌, take}
use Rattle.card_check.specs.LoadPages.{HasMarks}
use Rattle.load_session.proofs.free_page.mark.Given as goal

abbrev pub invariant-loop-page : goal.invariant-loop-page
invariant-loop-page l = (before : List ℕ) → HasMarks l.initial.marks before → HasMarks l.marks (before ++ take l.page-index l.pages)
