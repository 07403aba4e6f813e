use Rattle.card_types.specs.Represents.{IsInOrder}
use Rattle.domain_tree.proofs.AboveNamed.{free_of_loops}
use Rattle.card_tests.proofs.registry_changes.tree_locked.Goals as goal

pub lock_tree-requires-clause-no_loops : goal.lock_tree-requires-clause-no_loops
lock_tree-requires-clause-no_loops c =
    let tables = c.in_ok-records.records.tables in
    let is : IsInOrder tables = c.in_ok-records.ensures.2 in
    free_of_loops is.page tables is.said is.says is.well
