use Rattle.std.proofs.Common.{refl, arith}
use Rattle.card_check.proofs.RootLines.{way_begins, way_ends, way_goes_on, way_is_lost, way_is_over}
use Rattle.card_check.proofs.domains.leads_to_root.Goals as goal

pub loop-init : goal.loop-init
loop-init c = way_begins c.args.entries.now c.args.slot

pub loop-preserved : goal.loop-preserved
loop-preserved c =
    way_goes_on c.args.entries.now c.args.slot c.loop.at c.loop.counter c.in-Some.entry.now c.in-Some.ensures c.if-domain-at.false c.loop.invariant

pub returns-in_default : goal.returns-in_default
returns-in_default c =
    (λ yes. cc, λ leads. absurd (way_is_lost c.args.entries.now c.args.slot c.loop.at c.loop.counter c.in_default.ensures c.loop.invariant leads))

pub returns-then-domain-at : goal.returns-then-domain-at
returns-then-domain-at c =
    (λ yes. way_ends c.args.entries.now c.args.slot c.loop.at c.loop.counter c.in-Some.entry.now c.in-Some.ensures c.if-domain-at.true c.loop.invariant, λ leads. refl)

pub returns : goal.returns
returns c =
    (λ yes. cc, λ leads. absurd (way_is_over c.args.entries.now c.args.slot c.loop.at c.loop.counter (omega (arith, c.requires, c.loop-test.false)) c.loop.invariant leads))
