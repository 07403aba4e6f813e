use Rattle.card_types.proofs.ApplicationsRemoved.{applications_removed_keep}
use Rattle.card_types.proofs.RemovedThing.{entry_removed_keeps, file_removed_keeps}
use Rattle.card_types.proofs.laws.removals_keep_order.Goals as goal

pub returns : goal.returns
returns c = record { entry = entry_removed_keeps; applications = applications_removed_keep; file = file_removed_keeps }
