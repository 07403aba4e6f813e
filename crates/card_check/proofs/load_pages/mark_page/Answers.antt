use Rattle.std.proofs.Common.{arith}
use Rattle.card_check.proofs.LoadPagesNamed.{marks_push}
use Rattle.card_check.proofs.load_pages.mark_page.Goals as goal

pub returns-clause-yes : goal.returns-clause-yes
returns-clause-yes c before has new =
    marks_push c.args.marks.now before c.from-place.result c.args.page has (omega (arith, c.if-place-ge-LOAD_PAGES.false)) (omega (arith, c.from-place.ensures, c.if-page-lt-FIRST_LOAD_PAGE.false))
