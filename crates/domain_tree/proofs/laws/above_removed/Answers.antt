use Rattle.domain_tree.proofs.AboveChanges.{above_removed}
use Rattle.domain_tree.proofs.laws.above_removed.Goals as goal

pub returns : goal.returns
returns c = above_removed
