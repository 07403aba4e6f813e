use Rattle.std.proofs.Common.{List, ℕ, ◌++◌, length, ◌≤◌, take, refl, sym, subst, arith}
use Rattle.std.proofs.lemmas.List.{append-nil, take_all}
use Rattle.card_check.specs.LoadPages.{HasMarks}
use Rattle.load_session.proofs.PageMarks.{marks_more}
use Rattle.load_session.proofs.free_page.mark.Goals as goal

pub loop-page-init : goal.loop-page-init
loop-page-init c before has = subst (HasMarks c.args.marks.now) (sym (append-nil before)) has

pub loop-page-preserved : goal.loop-page-preserved
loop-page-preserved c before has =
    let so_far = before ++ take c.loop-page.page-index c.args.pages.now in
    marks_more before c.args.pages.now c.loop-page.page-index c.mark_page.new.marks _ (omega (arith, c.loop-page-test.true)) refl (c.mark_page.ensures so_far (c.loop-page.invariant before has))

pub returns : goal.returns
returns c before has =
    let past : length c.args.pages.now ≤ c.loop-page.page-index = omega (arith, c.loop-page-test.false) in
    subst (λ (pages : List ℕ). HasMarks c.loop-page.marks (before ++ pages)) (take_all c.loop-page.page-index c.args.pages.now past) (c.loop-page.invariant before has)
