use Rattle.std.proofs.Common.{ℕ, List, length, refl, sym, ap, subst, ◌∙◌, arith}
use Rattle.std.specs.Prelude.{Result, Ok, Err, OnErr}
use Rattle.script_lines.proofs.WorkloadLines.{workload_lines}
use Rattle.script_tool.specs.Line.{SaysLine}
use Rattle.script_tool.specs.Workload.{AreLines}
use Rattle.script_lines.specs.declared.line.ScriptLine.{ScriptLine}
use Rattle.gp_tool.proofs.MilledLines.{milled, milling_broken, milling_first, milling_more, workload_long}
use Rattle.gp_tool.proofs.Moments.{nothing_done}
use Rattle.gp_tool.proofs.Powered.{rose_since}
use Rattle.gp_tool.proofs.mill.mill_lines.Goals as goal

-- what is so is so of an error
on_err : {T E : Type 0} (result : Result T E) {Holds : Type 0} → Holds → OnErr result Holds
on_err (Ok done) holds = tt
on_err (Err refused) holds = holds

pub loop-mill-init : goal.loop-mill-init
loop-mill-init g c =
    let work = c.args.work in
    let all = c.new-mill.ensures in
    record {
      live = c.requires.live;
      later = omega arith;
      lines = subst AreLines (sym all) (workload_lines work.seed work.rounds);
      room = (let long = ap length all ∙ workload_long work.seed work.rounds in omega (arith, long));
      milling = λ first stands.
          milling_first g.F.Flash work first c.args.end.now.card.flash c.args.end.now c.new-player.result _ _ stands c.new-player.ensures
          (nothing_done g.F.Flash g.met.F.Flash.only_now c.args.end.now.card first stands) c.requires.none refl all;
    }

pub mill_line-requires-clause-live : goal.mill_line-requires-clause-live
mill_line-requires-clause-live g c = c.loop-mill.invariant.live

pub mill_line-requires-clause-form : goal.mill_line-requires-clause-form
mill_line-requires-clause-form g c =
    let next = c.loop-mill-test.ensures.line refl in
    let line = (subst AreLines next c.loop-mill.invariant.lines).0 in
    subst (λ (text : List ℕ). (said : ScriptLine) × SaysLine text said) (sym c.deref.ensures.0) line.0

pub mill_line-requires-clause-room : goal.mill_line-requires-clause-room
mill_line-requires-clause-room g c =
    let room = c.loop-mill.invariant.room in
    let few = c.requires.few in
    omega (arith, room, few)

pub loop-mill-smaller : goal.loop-mill-smaller
loop-mill-smaller g c =
    let next = ap length (c.loop-mill-test.ensures.line refl) in
    omega (arith, next)

pub loop-mill-preserved : goal.loop-mill-preserved
loop-mill-preserved g c =
    let before = c.loop-mill.invariant in
    let next = c.loop-mill-test.ensures.line refl in
    let line = c.deref.ensures.0 in
    let after = c.in_ok-mill_line.ensures in
    record {
      live = after.live;
      later = (let a = before.later in let b = after.later in omega (arith, a, b));
      lines = (subst AreLines next before.lines).1;
      room = (let long = ap length next in let room = before.room in let few = after.few in omega (arith, long, room, few));
      milling = λ first stands.
          (let milling = before.milling first stands in
          let at = milling.place in
          milling_more g.F.Flash c.args.work first c.args.end.now.card.flash c.loop-mill.end c.loop-mill.player c.loop-mill.tally _ _ _ next milling c.mill_line.new.end
          c.mill_line.new.player c.mill_line.new.tally (rw line at (after.played at milling.stands milling.host)));
    }

pub returns-in_err-mill_line-clause-broken : goal.returns-in_err-mill_line-clause-broken
returns-in_err-mill_line-clause-broken g c first stands =
    let next = c.loop-mill-test.ensures.line refl in
    let line = c.deref.ensures.0 in
    let milling = c.loop-mill.invariant.milling first stands in
    let is_line = (subst AreLines next c.loop-mill.invariant.lines).0 in
    on_err c.from_residual.result
    (milling_broken g.F.Flash c.args.work first c.args.end.now.card.flash c.loop-mill.end c.loop-mill.player c.loop-mill.tally _ _ _ next milling c.mill_line.new.end
    c.mill_line.new.player c.requires.few is_line.1 (rw line at (c.in_err-mill_line.ensures.broken milling.place milling.stands milling.host)))

pub returns-in_err-mill_line-clause-cause : goal.returns-in_err-mill_line-clause-cause
returns-in_err-mill_line-clause-cause g c =
    let before = c.loop-mill.invariant.later in
    let rose = c.in_err-mill_line.ensures.cause in
    on_err c.from_residual.result (rose_since _ _ _ before rose)

pub returns-in_err-mill_line-clause-later : goal.returns-in_err-mill_line-clause-later
returns-in_err-mill_line-clause-later g c =
    let before = c.loop-mill.invariant.later in
    let after = c.in_err-mill_line.ensures.later in
    omega (arith, before, after)

pub returns-clause-milled : goal.returns-clause-milled
returns-clause-milled g c first stands =
    let none = c.loop-mill-test.ensures.all.0 refl in
    milled g.F.Flash c.args.work first c.args.end.now.card.flash c.loop-mill.end c.loop-mill.player c.loop-mill.tally _ c.requires.few none (c.loop-mill.invariant.milling first stands)

pub returns-clause-live : goal.returns-clause-live
returns-clause-live g c = c.loop-mill.invariant.live

pub returns-clause-later : goal.returns-clause-later
returns-clause-later g c = c.loop-mill.invariant.later
