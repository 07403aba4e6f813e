use Rattle.domain_tree.proofs.AboveChanges.{above_moved, above_others_of_moved, none_above_root}
use Rattle.domain_tree.proofs.AboveBelow.{above_below_moved}
use Rattle.domain_tree.proofs.laws.above_moved.Goals as goal

pub returns : goal.returns
returns c = record { thing = above_moved; root = none_above_root; others = above_others_of_moved; below = above_below_moved }
