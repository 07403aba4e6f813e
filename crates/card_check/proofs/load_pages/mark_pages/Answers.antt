use Rattle.std.proofs.Common.{◌++◌, take, refl, arith}
use Rattle.card_check.proofs.LoadPagesNamed.{marking_begins, marking_goes_on, new_page}
use Rattle.card_check.proofs.load_pages.mark_pages.Goals as goal

pub loop-page-init : goal.loop-page-init
loop-page-init c before has are = marking_begins before c.args.pages.now c.args.marks.now has are

pub loop-page-preserved : goal.loop-page-preserved
loop-page-preserved c before has are =
    let so_far = before ++ take c.loop-page.page-index c.args.pages.now in
    let marked = c.loop-page.invariant before has are in
    marking_goes_on before c.args.pages.now c.mark_page.new.marks c.loop-page.page-index _ (omega (arith, c.loop-page-test.true)) refl marked.are
    ((c.mark_page.ensures.new so_far marked.marked).0 c.if-not-mark_page.false) (c.mark_page.ensures.yes so_far marked.marked c.if-not-mark_page.false)

pub returns-then-not-mark_page-clause-apart : goal.returns-then-not-mark_page-clause-apart
returns-then-not-mark_page-clause-apart c before has are = (
  λ none. cc,
  λ whole.
      (let so_far = before ++ take c.loop-page.page-index c.args.pages.now in
      let marked = c.loop-page.invariant before has are in
      let new = new_page before c.args.pages.now c.loop-page.page-index _ (omega (arith, c.loop-page-test.true)) refl whole in
      cc ((c.mark_page.ensures.new so_far marked.marked).1 new, c.if-not-mark_page.true)),
)
