use Rattle.std.proofs.Common.{◌≡◌, List, slice_get, refl, ap, ◌∙◌, arith}
use Rattle.flash_core.specs.declared.page.Page.{Page}
use Rattle.page_journal.specs.Phases.{IsStaged}
use Rattle.page_journal.proofs.Runs.{start, by_write, quiet, goes_on, wider}
use Rattle.page_journal.proofs.Causes.{on_ok}
use Rattle.page_journal.proofs.Copies.{homes_more, is_staged}
use Rattle.page_journal.proofs.steps.put_in_place.Goals as goal

pub loop-index-init : goal.loop-index-init
loop-index-init g c =
    let F = g.F.Flash in
    record {
      touched = λ told. start F g.met.F.Flash.only_now told (IsStaged c.args.pool.now) c.args.flash.now;
      homes = λ told i entry lt. absurd (omega (arith, lt));
      faults = refl;
    }

pub write-requires : goal.write-requires
write-requires g c = omega (arith, c.requires.homes c.loop-index.index _ c.at-home.ensures)

pub returns-in_err-write-clause-touches : goal.returns-in_err-write-clause-touches
returns-in_err-write-clause-touches g c told =
    let F = g.F.Flash in
    let e = c.in_err-write.ensures in
    let home = c.at-home.result.0 in
    goes_on F g.met.F.Flash.only_now told (IsStaged c.args.pool.now) _ _ _ (c.loop-index.invariant.touched told)
    (wider F g.met.F.Flash.only_now told (λ p. p ≡ home) (IsStaged c.args.pool.now) _ _
    (is_staged c.args.pool.now c.loop-index.index home _ c.len-index-end.ensures.distinct c.at-home.ensures)
    (by_write F g.met.F.Flash.only_now told home _ _ (e.torn told) (e.loss told) (e.time told)))

pub loop-index-preserved : goal.loop-index-preserved
loop-index-preserved g c =
    let F = g.F.Flash in
    let e = c.in_ok-write.ensures in
    let i = c.loop-index.invariant in
    let home = c.at-home.result.0 in
    record {
      touched = λ told.
          goes_on F g.met.F.Flash.only_now told (IsStaged c.args.pool.now) _ _ _ (i.touched told)
          (wider F g.met.F.Flash.only_now told (λ p. p ≡ home) (IsStaged c.args.pool.now) _ _
          (is_staged c.args.pool.now c.loop-index.index home _ c.len-index-end.ensures.distinct c.at-home.ensures)
          (by_write F g.met.F.Flash.only_now told home _ _ (e.torn told) (e.loss told) (e.time told)));
      homes = λ told. homes_more c.loop-index.index home c.args.pool.now _ _ _ c.len-index-end.ensures.distinct (i.homes told) c.at-home.ensures (e.torn told) (e.written told);
      faults = e.cause.ok ∙ i.faults;
    }

pub returns-clause-touches : goal.returns-clause-touches
returns-clause-touches g c told =
    let F = g.F.Flash in
    let s = c.sync.ensures in
    goes_on F g.met.F.Flash.only_now told (IsStaged c.args.pool.now) _ _ _ (c.loop-index.invariant.touched told)
    (quiet F g.met.F.Flash.only_now told (IsStaged c.args.pool.now) _ _ (s.torn told) (s.loss told) (s.time told))

pub returns-clause-homes : goal.returns-clause-homes
returns-clause-homes g c told =
    let F = g.F.Flash in
    on_ok c.sync.result _ (λ i entry lt there.
    ap (λ (pages : List Page). slice_get pages entry.0) (c.sync.ensures.torn told) ∙ c.loop-index.invariant.homes told i entry (omega (arith, lt, c.loop-index-test.false, c.len-index-end.ensures.length)) there)
