use Rattle.std.proofs.Common.{below_more, arith}
use Rattle.page_journal.proofs.descriptor.is_named_before.Goals as goal

pub loop-earlier-preserved : goal.loop-earlier-preserved
loop-earlier-preserved c = below_more _ _ c.loop-earlier.invariant c.if-bytes-earlier.false

pub returns : goal.returns
returns c = (λ no. absurd (cc no), λ named. absurd (c.loop-earlier.invariant named.0 (omega (arith, named.1, c.loop-earlier-test.false)) named.2))
