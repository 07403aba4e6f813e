use Rattle.std.proofs.Common.{inl, inr}
use Rattle.page_journal.specs.Phases.{IsStaged}
use Rattle.page_journal.proofs.Causes.{where_ok}
use Rattle.page_journal.proofs.Lists.{recorded_after}
use Rattle.page_journal.proofs.Commits.{gate_is, first, recorded, second, third, fourth, ended}
use Rattle.page_journal.proofs.PageKinds.{IsGate}
use Rattle.page_journal.proofs.commit.commit_pages.Goals as goal

pub returns-in_err-record-clause-moments : goal.returns-in_err-record-clause-moments
returns-in_err-record-clause-moments g c told loose before =
    let F = g.F.Flash in
    let r = c.requires in
    first F g.met.F.Flash.only_now told c.args.pool.now r.some r.room r.homes r.distinct c.args.flash.now (r.closed told) loose _ (r.calm told) before (c.in_err-record.ensures.touches told)

pub returns-in_err-set_gate-clause-moments : goal.returns-in_err-set_gate-clause-moments
returns-in_err-set_gate-clause-moments g c told loose before =
    let F = g.F.Flash in
    let r = c.requires in
    let e1 = c.in_ok-record.ensures in
    let e2 = c.in_err-set_gate.ensures in
    (second F g.met.F.Flash.only_now told c.args.pool.now r.some r.room r.homes r.distinct c.args.flash.now (r.closed told) loose _ _ (r.calm told) before (e1.touches told) (e1.copies told) (e1.names told) (e1.only told) (e2.touches told)).moments

pub returns-in_err-put_in_place-clause-moments : goal.returns-in_err-put_in_place-clause-moments
returns-in_err-put_in_place-clause-moments g c told loose before =
    let F = g.F.Flash in
    let r = c.requires in
    let e1 = c.in_ok-record.ensures in
    let e2 = c.in_ok-set_gate.ensures in
    let e3 = c.in_err-put_in_place.ensures in
    let gate = gate_is (F.pages c.set_gate.new.flash) (e2.written told).0 165 (e2.written told).1 (e2.written told).2 in
    let opened = second F g.met.F.Flash.only_now told c.args.pool.now r.some r.room r.homes r.distinct c.args.flash.now (r.closed told) loose _ _ (r.calm told) before (e1.touches told) (e1.copies told) (e1.names told) (e1.only told) (e2.touches told) in
    (third F g.met.F.Flash.only_now told c.args.pool.now r.some r.room r.homes r.distinct c.args.flash.now (r.closed told) loose _ _ opened gate (e2.only told) (e3.touches told)).moments

pub returns-clause-moments : goal.returns-clause-moments
returns-clause-moments g c told loose before =
    let F = g.F.Flash in
    let r = c.requires in
    let e1 = c.in_ok-record.ensures in
    let e2 = c.in_ok-set_gate.ensures in
    let e3 = c.in_ok-put_in_place.ensures in
    let e4 = c.set_gate-2.ensures in
    let gate = gate_is (F.pages c.set_gate.new.flash) (e2.written told).0 165 (e2.written told).1 (e2.written told).2 in
    let opened = second F g.met.F.Flash.only_now told c.args.pool.now r.some r.room r.homes r.distinct c.args.flash.now (r.closed told) loose _ _ (r.calm told) before (e1.touches told) (e1.copies told) (e1.names told) (e1.only told) (e2.touches told) in
    let placed = third F g.met.F.Flash.only_now told c.args.pool.now r.some r.room r.homes r.distinct c.args.flash.now (r.closed told) loose _ _ opened gate (e2.only told) (e3.touches told) in
    fourth F g.met.F.Flash.only_now told c.args.pool.now r.some r.room r.homes r.distinct c.args.flash.now (r.closed told) loose _ _ placed (e3.homes told) (e3.only told) (e4.touches told)

pub returns-clause-list : goal.returns-clause-list
returns-clause-list g c told =
    let F = g.F.Flash in
    let r = c.requires in
    let e1 = c.in_ok-record.ensures in
    let e2 = c.in_ok-set_gate.ensures in
    let e3 = c.in_ok-put_in_place.ensures in
    let e4 = c.set_gate-2.ensures in
    let pool = c.args.pool.now in
    let f0 = c.args.flash.now in
    let was1 = recorded F g.met.F.Flash.only_now told pool r.some r.room r.homes r.distinct f0 (r.closed told) _ (e1.touches told) (e1.copies told) (e1.names told) in
    let was2 = recorded_after IsGate pool (F.pages f0) _ _ r.homes (λ p is. inl is) (e2.touches told).seen was1 in
    let was3 = recorded_after (IsStaged pool) pool (F.pages f0) _ _ r.homes (λ p is. inr is) (e3.touches told).seen was2 in
    where_ok c.set_gate-2.result _ _ (λ w. ended F g.met.F.Flash.only_now told pool r.some r.room r.homes r.distinct f0 (r.closed told) _ _ was3 (e3.homes told) (e4.touches told) (gate_is (F.pages c.set_gate-2.new.flash) w.0 0 w.1 w.2)) (e4.written told)
