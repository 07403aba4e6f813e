use Rattle.policy_machine.proofs.Opened.{changes_are_opened}
use Rattle.policy_machine.proofs.laws.changes_are_opened.Goals as goal

pub returns : goal.returns
returns c = changes_are_opened
