use Rattle.domain_tree.proofs.LinesStay.{above_stays, line_stays}
use Rattle.domain_tree.proofs.laws.lines_stay.Goals as goal

pub returns : goal.returns
returns c = record { above = above_stays; line = line_stays }
