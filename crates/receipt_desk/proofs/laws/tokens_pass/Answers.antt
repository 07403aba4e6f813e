use Rattle.receipt_desk.proofs.Signed as proof
use Rattle.receipt_desk.proofs.laws.tokens_pass.Goals as goal

pub returns : goal.returns
returns c = proof.tokens_pass
