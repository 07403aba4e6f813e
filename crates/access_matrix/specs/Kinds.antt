-- For the code inside. The kinds of deeds by their numbers.
use Rattle.std.specs.Prelude.{ℕ}
use Rattle.access_matrix.specs.declared.kind.Kind.{Kind}
use Rattle.access_matrix.specs.declared.kind.Kind.TheVariants.{Delete, Related, Lock, Move, Install, Load}

abbrev pub kind_number : Kind → ℕ
kind_number Delete = 0
kind_number Related = 1
kind_number Lock = 2
kind_number Move = 3
kind_number Install = 4
kind_number Load = 5
