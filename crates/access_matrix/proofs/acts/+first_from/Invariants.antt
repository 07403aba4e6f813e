use Rattle.std.proofs.Common.{◌-◌}
use Rattle.access_matrix.specs.Kinds.{kind_number}
use Rattle.access_matrix.proofs.acts.+first_from.Given as goal

abbrev pub decreases-first_from : goal.decreases-first_from
decreases-first_from l = 5 - kind_number l.kind
