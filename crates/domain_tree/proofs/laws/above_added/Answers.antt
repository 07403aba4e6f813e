use Rattle.domain_tree.proofs.AboveChanges.{above_added, above_others_of_added}
use Rattle.domain_tree.proofs.laws.above_added.Goals as goal

pub returns : goal.returns
returns c = record { new = above_added; others = above_others_of_added }
