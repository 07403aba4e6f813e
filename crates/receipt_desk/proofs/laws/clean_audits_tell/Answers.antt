use Rattle.receipt_desk.proofs.Audited as proof
use Rattle.receipt_desk.proofs.laws.clean_audits_tell.Goals as goal

pub returns : goal.returns
returns c = proof.clean_audits_tell
