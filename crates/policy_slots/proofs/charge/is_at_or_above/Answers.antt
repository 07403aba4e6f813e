use Rattle.domain_tree.proofs.AboveNamed.{free_of_loops}
use Rattle.policy_slots.proofs.ChargeNamed.{at_or_above_alike}
use Rattle.policy_slots.proofs.charge.is_at_or_above.Goals as goal

pub above-requires-clause-no_loops : goal.above-requires-clause-no_loops
above-requires-clause-no_loops c =
    let order = c.requires.in_order in
    rw c.deref.ensures.value (free_of_loops order.page c.args.tables.now order.said order.says order.well)

pub returns-else-a-b : goal.returns-else-a-b
returns-else-a-b c page said x y says well at_a at_b =
    at_or_above_alike page c.args.tables.now said says well c.args.a c.args.b x y at_a at_b c.if-a-b.false c.above.result (rw c.deref.ensures.value at c.above.ensures)
