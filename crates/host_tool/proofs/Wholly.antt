-- A text that was written whole before its flush was refused.
use Rattle.std.proofs.Common.{◌≡◌, ◌++◌, ℕ, List, length, take, Result, Ok, Err, sym, ap, ◌∙◌}
use Rattle.std.specs.Prelude.{OnErr}
use Rattle.std.proofs.Math.Seq.{take-length}

-- the whole text is a front of it
pub whole_text : {E : Type 0} (result : Result (Unit {0}) E) (old new text : List ℕ) → new ≡ old ++ text → OnErr result ((n : ℕ) × (new ≡ old ++ take n text))
whole_text (Ok done) old new text written = tt
whole_text (Err refused) old new text written = (length text, written ∙ ap (λ t. old ++ t) (sym (take-length text)))
