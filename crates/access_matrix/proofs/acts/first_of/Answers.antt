use Rattle.access_matrix.proofs.ActPlaces.{load_is_next}
use Rattle.access_matrix.proofs.acts.first_of.Goals as goal

pub returns-in-Load-clause-some : goal.returns-in-Load-clause-some
returns-in-Load-clause-some c = rw c.in-Load.is (load_is_next c.args.tables.now)
