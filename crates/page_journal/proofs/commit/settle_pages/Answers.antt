use Rattle.std.proofs.Common.{ap}
use Rattle.page_journal.specs.Journal.{bytes_of}
use Rattle.page_journal.specs.Moments.{Leaves}
use Rattle.page_journal.specs.Journal.{stored_page}
use Rattle.page_journal.proofs.Runs.{then_only}
use Rattle.page_journal.proofs.Causes.{where_ok}
use Rattle.page_journal.proofs.Commits.{gate_is}
use Rattle.page_journal.proofs.Settles.{copied, closing, settled}
use Rattle.page_journal.proofs.commit.settle_pages.Goals as goal

pub returns-in_err-copy_in_place-clause-moments : goal.returns-in_err-copy_in_place-clause-moments
returns-in_err-copy_in_place-clause-moments g c told loose before =
    let F = g.F.Flash in
    let r = c.requires in
    copied F g.met.F.Flash.only_now told c.args.descriptor.now.bytes r.valid c.args.flash.now (r.gate told) (ap bytes_of (r.named told)) loose _ (r.calm told) before (c.in_err-copy_in_place.ensures.touches told)

pub returns-clause-moments : goal.returns-clause-moments
returns-clause-moments g c told loose before =
    let F = g.F.Flash in
    let r = c.requires in
    let e1 = c.in_ok-copy_in_place.ensures in
    let e2 = c.set_gate.ensures in
    let bytes = c.args.descriptor.now.bytes in
    let f0 = c.args.flash.now in
    then_only F g.met.F.Flash.only_now told f0 _ _ (Leaves (stored_page (F.pages f0)) loose)
    (copied F g.met.F.Flash.only_now told bytes r.valid f0 (r.gate told) (ap bytes_of (r.named told)) loose _ (r.calm told) before (e1.touches told))
    (closing F g.met.F.Flash.only_now told bytes r.valid f0 (r.gate told) (ap bytes_of (r.named told)) loose _ _ (e1.touches told) (e1.homes told) (e1.only told) (e2.touches told))

pub returns-clause-list : goal.returns-clause-list
returns-clause-list g c told =
    let F = g.F.Flash in
    let r = c.requires in
    let e1 = c.in_ok-copy_in_place.ensures in
    let e2 = c.set_gate.ensures in
    let bytes = c.args.descriptor.now.bytes in
    let f0 = c.args.flash.now in
    where_ok c.set_gate.result _ _ (λ w. settled F g.met.F.Flash.only_now told bytes r.valid f0 (r.gate told) (ap bytes_of (r.named told)) _ _ (e1.touches told) (e1.homes told) (e2.touches told).seen (gate_is (F.pages c.set_gate.new.flash) w.0 0 w.1 w.2)) (e2.written told)
