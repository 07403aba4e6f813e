-- The line of a reply in a buffer.
use Rattle.std.proofs.Common.{◌≡◌, ℕ, ◌+◌, List, ◌++◌, length, take, Result, Ok, Err, ◌∙◌, arith}
use Rattle.std.specs.Prelude.{IsOk, OnOk}
use Rattle.std.proofs.lemmas.List.{length-append, take_at}
use Rattle.std.proofs.lemmas.Slice.{take-put_mid}
use borrow.Rule.Slice.PartMut.{put_mid}

-- digits in the front of a buffer, and what was copied after them
pub line_spelled : (digits count k : ℕ) (x z y code after : List ℕ) → count ≡ digits + length y → length x ≡ digits → x ≡ code → y ≡ after
    → take count (put_mid digits k (x ++ z) y) ≡ code ++ after
line_spelled digits count k x z y code after len lx ex ey =
    take-put_mid digits k (x ++ z) y count len (omega (arith, lx, length-append x z)) ∙ (λ j. (take_at x z digits lx ∙ ex) j ++ ey j)

-- what is so of a success, where it is one
pub from_ok : {E : Type 0} (result : Result (Unit {0}) E) (Holds : Type 0) → IsOk result → OnOk result Holds → Holds
from_ok (Ok done) Holds is holds = holds
from_ok (Err refused) Holds is holds = cc
