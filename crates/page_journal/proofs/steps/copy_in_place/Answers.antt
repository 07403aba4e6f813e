use Rattle.std.proofs.Common.{rules, ◌≡◌, ◌+◌, List, Some, slice_get, get_or, sym, ◌∙◌, subst}
use Rattle.flash_core.specs.declared.page.Page.{Page}
use Rattle.flash_core.specs.Device.{SameBut}
use Rattle.page_journal.specs.Phases.{IsInDescriptor}
use Rattle.page_journal.proofs.Runs.{by_write, quiet, goes_on, wider}
use Rattle.page_journal.proofs.Copies.{named_more, copy_unnamed}
use Rattle.page_journal.proofs.PageKinds.{copy_page}
use Rattle.page_journal.proofs.steps.copy_in_place.Goals as goal

pub returns-in_err-write-clause-touches : goal.returns-in_err-write-clause-touches
returns-in_err-write-clause-touches g c told =
    let F = g.F.Flash in
    let e = c.in_err-write.ensures in
    let r = c.in_ok-read.ensures in
    let home : c.from.result ≡ get_or c.args.descriptor.now.bytes (c.loop-index.index + 1) 0 = search rules in
    let inside = IsInDescriptor c.args.descriptor.now.bytes in
    goes_on F g.met.F.Flash.only_now told inside _ _ _ (c.loop-index.invariant.touched told)
    (goes_on F g.met.F.Flash.only_now told inside _ _ _
    (quiet F g.met.F.Flash.only_now told inside _ _ (r.torn told) (r.loss told) (r.time told))
    (wider F g.met.F.Flash.only_now told (λ p. p ≡ c.from.result) inside _ _ (λ p same. (c.loop-index.index, c.loop-index-test.true, sym (same ∙ home)))
    (by_write F g.met.F.Flash.only_now told c.from.result _ _ (e.torn told) (e.loss told) (e.time told))))

pub loop-index-preserved : goal.loop-index-preserved
loop-index-preserved g c =
    let F = g.F.Flash in
    let e = c.in_ok-write.ensures in
    let r = c.in_ok-read.ensures in
    let i = c.loop-index.invariant in
    let index = c.loop-index.index in
    let bytes = c.args.descriptor.now.bytes in
    let home : c.from.result ≡ get_or bytes (index + 1) 0 = search rules in
    let inside = IsInDescriptor bytes in
    record {
      touched = λ told.
          goes_on F g.met.F.Flash.only_now told inside _ _ _ (i.touched told)
          (goes_on F g.met.F.Flash.only_now told inside _ _ _
          (quiet F g.met.F.Flash.only_now told inside _ _ (r.torn told) (r.loss told) (r.time told))
          (wider F g.met.F.Flash.only_now told (λ p. p ≡ c.from.result) inside _ _ (λ p same. (index, c.loop-index-test.true, sym (same ∙ home)))
          (by_write F g.met.F.Flash.only_now told c.from.result _ _ (e.torn told) (e.loss told) (e.time told))));
      homes = λ told.
          named_more index bytes c.read.new.into (F.pages c.args.flash.now) (F.pages c.loop-index.flash) (F.pages c.write.new.self) c.requires c.loop-index-test.true (i.homes told)
          (sym ((i.touched told).seen (copy_page index) (copy_unnamed bytes index c.requires)) ∙ r.written told)
          (subst (λ n. SameBut n (F.pages c.loop-index.flash) (F.pages c.write.new.self)) home (subst (λ (l : List Page). SameBut c.from.result l (F.pages c.write.new.self)) (r.torn told) (e.torn told)))
          (subst (λ n. slice_get (F.pages c.write.new.self) n ≡ Some c.read.new.into) home (e.written told));
      faults = e.cause.ok ∙ r.cause.ok ∙ i.faults;
    }
