use Rattle.load_session.proofs.Stays.{ready_stays}
use Rattle.load_session.proofs.laws.ready_stays.Goals as goal

pub returns : goal.returns
returns c = ready_stays
