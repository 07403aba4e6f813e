use Rattle.receipt_desk.proofs.OneLine as proof
use Rattle.receipt_desk.proofs.laws.one_desk_line.Goals as goal

pub returns : goal.returns
returns c = proof.one_desk_line
