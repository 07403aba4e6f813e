use Rattle.std.proofs.Common.{arith}
use Rattle.cap_pack.proofs.AppletLists.{Passed, applet_read, front_lists, not_over}
use Rattle.cap_pack.proofs.applets.applet.Goals as goal

pub returns-in_err-rest-clause-named : goal.returns-in_err-rest-clause-named
returns-in_err-rest-clause-named c aids lists more =
    let front = front_lists c.args.index aids c.args.bytes.now (omega arith) lists in
    absurd (c.in_err-rest.ensures.none front.0 front.1 front.2)

pub returns-in-None-clause-named : goal.returns-in-None-clause-named
returns-in-None-clause-named c aids lists more =
    let applets = c.in_ok-rest.ensures.applets in
    let passed : Passed c.args.index c.in_ok-rest.rest.now c.args.bytes.now = record { aids = applets.0; many = applets.1; are = applets.2 } in
    let next = not_over c.args.index c.in_ok-rest.rest.now c.args.bytes.now aids passed lists more in
    absurd (c.in-None.ensures.none next.0 next.2.0 next.1 next.2.1 next.2.2 next.2.3)

pub returns-in-Some-clause-named : goal.returns-in-Some-clause-named
returns-in-Some-clause-named c aids lists more =
    let applets = c.in_ok-rest.ensures.applets in
    let passed : Passed c.args.index c.in_ok-rest.rest.now c.args.bytes.now = record { aids = applets.0; many = applets.1; are = applets.2 } in
    applet_read c.args.index c.in-Some.found.0 c.in_ok-rest.rest.now c.in-Some.found.1.now c.args.bytes.now aids passed c.in-Some.ensures.applet lists more
