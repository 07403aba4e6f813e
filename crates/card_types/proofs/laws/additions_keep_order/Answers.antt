use Rattle.card_types.proofs.AddedThing.{entry_added_keeps, file_added_keeps}
use Rattle.card_types.proofs.laws.additions_keep_order.Goals as goal

pub returns : goal.returns
returns c = record { entry = entry_added_keeps; file = file_added_keeps }
