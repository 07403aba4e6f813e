use Rattle.domain_tree.proofs.AboveChanges.{above_changed}
use Rattle.domain_tree.proofs.laws.above_changed.Goals as goal

pub returns : goal.returns
returns c = above_changed
