use Rattle.policy_machine.proofs.AllForms.{one_form}
use Rattle.policy_machine.proofs.laws.one_form.Goals as goal

pub returns : goal.returns
returns c = one_form
