use Rattle.card_types.proofs.MovedThing.{moved_keeps}
use Rattle.card_types.proofs.laws.moves_keep_order.Goals as goal

pub returns : goal.returns
returns c = moved_keeps
