use Rattle.std.proofs.Common.{◌≡◌, refl, ◌∙◌, arith}
use Rattle.page_journal.specs.Phases.{IsCopy}
use Rattle.page_journal.proofs.Runs.{start, by_write, goes_on, wider}
use Rattle.page_journal.proofs.Copies.{copies_more}
use Rattle.page_journal.proofs.PageKinds.{copy_page}
use Rattle.page_journal.proofs.steps.write_copies.Goals as goal

pub loop-index-init : goal.loop-index-init
loop-index-init g c =
    let F = g.F.Flash in
    record {
      touched = λ told. start F g.met.F.Flash.only_now told IsCopy c.args.flash.now;
      copies = λ told i entry lt. absurd (omega (arith, lt));
      faults = refl;
    }

pub returns-in_err-write-clause-touches : goal.returns-in_err-write-clause-touches
returns-in_err-write-clause-touches g c told =
    let F = g.F.Flash in
    let e = c.in_err-write.ensures in
    goes_on F g.met.F.Flash.only_now told IsCopy _ _ _ (c.loop-index.invariant.touched told)
    (wider F g.met.F.Flash.only_now told (λ p. p ≡ copy_page c.loop-index.index) IsCopy _ _ (λ p same. (omega (arith, same), omega (arith, same, c.loop-index-test.true, c.len-index-end.ensures.room)))
    (by_write F g.met.F.Flash.only_now told (copy_page c.loop-index.index) _ _ (e.torn told) (e.loss told) (e.time told)))

pub loop-index-preserved : goal.loop-index-preserved
loop-index-preserved g c =
    let F = g.F.Flash in
    let e = c.in_ok-write.ensures in
    let i = c.loop-index.invariant in
    record {
      touched = λ told.
          goes_on F g.met.F.Flash.only_now told IsCopy _ _ _ (i.touched told)
          (wider F g.met.F.Flash.only_now told (λ p. p ≡ copy_page c.loop-index.index) IsCopy _ _ (λ p same. (omega (arith, same), omega (arith, same, c.loop-index-test.true, c.len-index-end.ensures.room)))
          (by_write F g.met.F.Flash.only_now told (copy_page c.loop-index.index) _ _ (e.torn told) (e.loss told) (e.time told)));
      copies = λ told. copies_more c.loop-index.index _ c.args.pool.now _ _ _ (i.copies told) c.at.ensures (e.torn told) (e.written told);
      faults = e.cause.ok ∙ i.faults;
    }

pub returns-clause-touches : goal.returns-clause-touches
returns-clause-touches g c = c.loop-index.invariant.touched

pub returns-clause-copies : goal.returns-clause-copies
returns-clause-copies g c told = λ i entry lt there. c.loop-index.invariant.copies told i entry (omega (arith, lt, c.loop-index-test.false, c.len-index-end.ensures.length)) there
