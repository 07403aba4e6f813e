use Rattle.std.proofs.Common.{arith}
use Rattle.card_check.proofs.LoadPagesNamed.{marks_push}
use Rattle.load_session.proofs.PageMarks.{marks_pass}
use Rattle.load_session.proofs.free_page.mark_page.Goals as goal

pub returns-then-page-lt-FIRST_LOAD_PAGE : goal.returns-then-page-lt-FIRST_LOAD_PAGE
returns-then-page-lt-FIRST_LOAD_PAGE c before has = marks_pass c.args.marks.now before c.args.page has (λ is. absurd (omega (arith, is.0, c.if-page-lt-FIRST_LOAD_PAGE.true)))

pub returns-then-place-lt-LOAD_PAGES : goal.returns-then-place-lt-LOAD_PAGES
returns-then-place-lt-LOAD_PAGES c before has =
    marks_push c.args.marks.now before c.from-place.result c.args.page has c.if-place-lt-LOAD_PAGES.true (omega (arith, c.from-place.ensures, c.if-page-lt-FIRST_LOAD_PAGE.false))

pub returns-else-place-lt-LOAD_PAGES : goal.returns-else-place-lt-LOAD_PAGES
returns-else-place-lt-LOAD_PAGES c before has =
    marks_pass c.args.marks.now before c.args.page has (λ is. absurd (omega (arith, is.1, c.from-place.ensures, c.if-page-lt-FIRST_LOAD_PAGE.false, c.if-place-lt-LOAD_PAGES.false)))
