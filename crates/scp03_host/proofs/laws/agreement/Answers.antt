use Rattle.scp03_host.proofs.AgreementLemmas.{begin_agreeing, go_on_agreeing}
use Rattle.scp03_host.proofs.laws.agreement.Goals as goal

pub returns-clause-started : goal.returns-clause-started
returns-clause-started c = begin_agreeing

pub returns-clause-kept : goal.returns-clause-kept
returns-clause-kept c = go_on_agreeing
