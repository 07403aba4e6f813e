use Rattle.policy_machine.proofs.Offers.{refusals_drop_offers}
use Rattle.policy_machine.proofs.laws.refusals_drop_offers.Goals as goal

pub returns : goal.returns
returns c = refusals_drop_offers
