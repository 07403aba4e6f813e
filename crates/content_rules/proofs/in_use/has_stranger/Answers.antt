use Rattle.domain_tree.proofs.AboveNamed.{free_of_loops}
use Rattle.content_rules.proofs.in_use.has_stranger.Goals as goal

pub above-requires-clause-no_loops : goal.above-requires-clause-no_loops
above-requires-clause-no_loops c =
    let order = c.requires.in_order in
    rw c.deref.ensures.value (free_of_loops order.page c.args.tables.now order.said order.says order.well)
