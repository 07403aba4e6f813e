use Rattle.access_matrix.proofs.ActPlaces.{install_follows}
use Rattle.access_matrix.proofs.acts.next_install.Goals as goal

pub returns-in-Some-clause-some : goal.returns-in-Some-clause-some
returns-in-Some-clause-some c = (install_follows c.args.tables.now).0 _ _ c.in-Some.ensures.some

pub returns-in-None-clause-none : goal.returns-in-None-clause-none
returns-in-None-clause-none c = (install_follows c.args.tables.now).1 _ c.in-None.ensures.none
