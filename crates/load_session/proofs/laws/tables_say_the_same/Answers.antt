use Rattle.load_session.proofs.Loading.{tables_say_the_same}
use Rattle.load_session.proofs.laws.tables_say_the_same.Goals as goal

pub returns : goal.returns
returns c = tables_say_the_same
