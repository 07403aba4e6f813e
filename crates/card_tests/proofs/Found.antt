-- What a search that finds nothing says.
use Rattle.std.proofs.Common.{◌≡◌, Bool, true, not, Option, None, Some, ap}
use Rattle.std.specs.Prelude.{IfNone, is_some}

pub where_none : {T : Type 0} (found : Option T) (P : Type 0) (none : Bool) → is_some found ≡ not none → none ≡ true → IfNone found P → P
where_none None P none is so given = given
where_none (Some thing) P none is so given = (let differs = ap not so in cc)
