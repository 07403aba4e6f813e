use Rattle.policy_machine.proofs.JudgedAlike.{alike_are_judged_alike}
use Rattle.policy_machine.proofs.OpenedJudged.{opened_are_judged}
use Rattle.policy_machine.proofs.laws.own_rules_decide.Goals as goal

pub returns : goal.returns
returns c = record { opened = opened_are_judged; alike = alike_are_judged_alike }
