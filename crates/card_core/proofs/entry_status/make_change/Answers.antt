use Rattle.card_core.proofs.StatusChanged.{tree_staged}
use Rattle.card_core.proofs.entry_status.make_change.Goals as goal

pub returns-in-Tree-clause-staged : goal.returns-in-Tree-clause-staged
returns-in-Tree-clause-staged g c =
    tree_staged c.args.records.now.tables c.lock_tree.new.records.tables c.args.records.now.staged c.lock_tree.new.records.staged c.requires.clean c.lock_tree.ensures.staged
