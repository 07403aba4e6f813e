use Rattle.receipt_desk.proofs.Verdicts as proof
use Rattle.receipt_desk.proofs.laws.one_verdict.Goals as goal

pub returns : goal.returns
returns c = proof.one_verdict
