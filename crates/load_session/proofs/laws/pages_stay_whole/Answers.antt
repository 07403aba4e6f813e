use Rattle.load_session.proofs.Loading.{pages_stay_whole}
use Rattle.load_session.proofs.laws.pages_stay_whole.Goals as goal

pub returns : goal.returns
returns c = pages_stay_whole
