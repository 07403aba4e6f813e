use Rattle.std.proofs.Common.{◌<◌, length, sym, arith}
use Rattle.domain_tree.proofs.Climb.{domain_within, first_above_reached, none_above_end, none_above_free, none_above_reached, reached_first, reached_next}
use Rattle.domain_tree.proofs.walk.first_above.Goals as goal

pub loop-init : goal.loop-init
loop-init g c = reached_first c.args.entries.now _ c.requires.no_loops c.args.slot

pub loop-preserved : goal.loop-preserved
loop-preserved g c =
    reached_next c.args.entries.now _ c.requires.no_loops c.args.slot c.loop.at c.loop.counter c.in-Some.entry.now
    c.in-Some.ensures c.if-domain-at.false (sym c.if-fits.ensures) c.loop.invariant

pub fits-requires : goal.fits-requires
fits-requires g c =
    let within : c.in-Some.entry.now.domain < length c.args.entries.now =
    domain_within c.args.entries.now (g.S.Wanted.fits c.args.wanted.now) c.requires.no_loops c.loop.at c.in-Some.entry.now c.in-Some.ensures c.if-domain-at.false in
    omega (arith, c.requires.whole)

pub returns-then-fits-clause-some : goal.returns-then-fits-clause-some
returns-then-fits-clause-some g c =
    first_above_reached c.args.entries.now _ c.requires.no_loops c.args.slot c.loop.at c.loop.counter c.in-Some.entry.now
    c.in-Some.ensures c.if-domain-at.false (sym c.if-fits.ensures) c.loop.invariant

pub returns-then-domain-at-clause-none : goal.returns-then-domain-at-clause-none
returns-then-domain-at-clause-none g c =
    none_above_reached c.args.entries.now _ c.requires.no_loops c.args.slot c.loop.at c.loop.counter c.in-Some.entry.now
    c.in-Some.ensures c.if-domain-at.true c.loop.invariant

pub returns-in_default-clause-none : goal.returns-in_default-clause-none
returns-in_default-clause-none g c =
    none_above_free c.args.entries.now _ c.requires.no_loops c.args.slot c.loop.at c.loop.counter c.in_default.ensures c.loop.invariant

pub returns-clause-none : goal.returns-clause-none
returns-clause-none g c =
    none_above_end c.args.entries.now _ c.requires.no_loops c.args.slot c.loop.at c.loop.counter (omega (arith, c.requires.whole, c.loop-test.false)) c.loop.invariant
