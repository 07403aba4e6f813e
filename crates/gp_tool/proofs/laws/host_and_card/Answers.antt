use Rattle.gp_tool.proofs.Together.{host_and_card}
use Rattle.gp_tool.proofs.laws.host_and_card.Goals as goal

pub returns : goal.returns
returns c = host_and_card
