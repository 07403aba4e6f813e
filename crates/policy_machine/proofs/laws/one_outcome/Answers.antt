use Rattle.policy_machine.proofs.OneOutcome.{one_outcome, one_run}
use Rattle.policy_machine.proofs.laws.one_outcome.Goals as goal

pub returns : goal.returns
returns c = record { step = one_outcome; run = one_run }
