use Rattle.load_session.proofs.Stays.{session_stays}
use Rattle.load_session.proofs.laws.session_stays.Goals as goal

pub returns : goal.returns
returns c = session_stays
