use Rattle.policy_machine.proofs.NumbersRisen.{numbers_rise, numbers_rise_in_runs}
use Rattle.policy_machine.proofs.laws.numbers_rise.Goals as goal

pub returns : goal.returns
returns c = record { step = numbers_rise; run = numbers_rise_in_runs }
