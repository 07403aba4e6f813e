use Rattle.gp_tool.proofs.LinesAreRuns.{lines_keep_trees}
use Rattle.gp_tool.proofs.laws.lines_keep_trees.Goals as goal

pub returns : goal.returns
returns c = lines_keep_trees
