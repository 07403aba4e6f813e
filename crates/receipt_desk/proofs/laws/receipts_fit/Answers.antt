use Rattle.receipt_desk.proofs.OfCards as proof
use Rattle.receipt_desk.proofs.laws.receipts_fit.Goals as goal

pub returns : goal.returns
returns c = record { fit = proof.receipts_fit; taken = proof.desks_take_these }
