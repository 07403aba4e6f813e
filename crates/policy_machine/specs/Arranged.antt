-- A list in ascending order.
use Rattle.std.specs.Prelude.{List}
use Rattle.std.specs.List.Sorted.{IsPermutation, IsStrictlySortedBy}
use Rattle.std.specs.declared.cmp.Ordering.{Ordering}

-- the second list has the things of the first, in strictly ascending order
pub record IsArranged {X : Type 0} (order : X → X → Ordering) (things arranged : List X) : Type 0 where
  pub ascending : IsStrictlySortedBy order arranged
  pub same : IsPermutation things arranged
