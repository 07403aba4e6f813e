use Rattle.policy_machine.proofs.JudgedAlike.{alike_are_judged_alike}
use Rattle.policy_machine.proofs.OpenedJudged.{opened_are_judged}
use Rattle.access_matrix.proofs.SessionJudged.{accepted_so}
use Rattle.access_matrix.proofs.laws.accepts_as_judged.Goals as goal

pub returns : goal.returns
returns c = accepted_so opened_are_judged alike_are_judged_alike
