use Rattle.scp03_host.proofs.AgreementLemmas.{one_plain_reply}
use Rattle.scp03_host.proofs.laws.one_plain_reply.Goals as goal

pub returns : goal.returns
returns c = one_plain_reply
