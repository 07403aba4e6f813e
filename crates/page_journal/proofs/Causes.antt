-- What holds where a call succeeded.
use Rattle.std.proofs.Common.{Result, Ok, Err, OnOk}

-- what holds anyway holds where a call succeeded
pub on_ok : {T E : Type 0} (result : Result T E) (P : Type 0) → P → OnOk result P
on_ok (Ok x) P p = p
on_ok (Err e) P p = tt

-- what follows where a call succeeded
pub where_ok : {T E : Type 0} (result : Result T E) (P Q : Type 0) → (P → Q) → OnOk result P → OnOk result Q
where_ok (Ok x) P Q f p = f p
where_ok (Err e) P Q f p = tt
