use Rattle.access_matrix.proofs.NextRights.{next_rights_are_all}
use Rattle.access_matrix.proofs.laws.next_rights_are_all.Goals as goal

pub returns : goal.returns
returns c = next_rights_are_all
