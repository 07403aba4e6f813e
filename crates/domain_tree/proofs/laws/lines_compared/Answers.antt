use Rattle.domain_tree.proofs.Compared.{above_compared, above_decided, above_further, not_above_each_other}
use Rattle.domain_tree.proofs.FirstFound.{first_above_decided}
use Rattle.domain_tree.proofs.laws.lines_compared.Goals as goal

pub returns : goal.returns
returns c = record { one_above = above_compared; further = above_further; not_both = not_above_each_other; decided = above_decided; first = first_above_decided }
