use Rattle.scp03_card.proofs.GivesLemmas.{opens_one, opens_fits}
use Rattle.scp03_card.proofs.laws.one_plain.Goals as goal

pub returns-clause-alone : goal.returns-clause-alone
returns-clause-alone c = opens_one

pub returns-clause-fits : goal.returns-clause-fits
returns-clause-fits c = opens_fits
