use Rattle.std.proofs.Common.{arith, ◌∙◌}
use Rattle.cap_pack.proofs.AppletLists.{none_passed, not_over, one_passed}
use Rattle.cap_pack.proofs.applets.skip.Goals as goal

pub loop-init : goal.loop-init
loop-init c = none_passed c.args.bytes.now

pub returns-in_default-clause-none : goal.returns-in_default-clause-none
returns-in_default-clause-none c aids many lists =
    let next = not_over c.loop.counter c.loop.rest.now c.args.bytes.now aids c.loop.invariant lists (omega (arith, many)) in
    c.in_default.ensures.none next.0 next.2.0 next.1 next.2.1 next.2.2 next.2.3

pub loop-preserved : goal.loop-preserved
loop-preserved c = one_passed c.loop.counter c.in-Some.field-0-0 c.loop.rest.now c.in-Some.next.now c.args.bytes.now c.loop.invariant c.in-Some.ensures.applet

pub returns-clause-applets : goal.returns-clause-applets
returns-clause-applets c = (c.loop.invariant.aids, c.loop.invariant.many ∙ omega arith, c.loop.invariant.are)
