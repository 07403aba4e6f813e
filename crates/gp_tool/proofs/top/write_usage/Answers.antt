use Rattle.std.proofs.Common.{◌≡◌, ◌++◌, ℕ, List, length, take, Result, Ok, Err, sym, ap, ◌∙◌}
use Rattle.std.specs.Prelude.{OnErr}
use Rattle.std.proofs.Math.Seq.{take-length}
use Rattle.gp_tool.specs.Words.{usage_line}
use Rattle.gp_tool.proofs.top.write_usage.Goals as goal

-- the whole line is a front of it
whole_line : {E : Type 0} (result : Result (Unit {0}) E) (old new : List ℕ) → new ≡ old ++ usage_line → OnErr result ((n : ℕ) × (new ≡ old ++ take n usage_line))
whole_line (Ok done) old new written = tt
whole_line (Err refused) old new written = (length usage_line, written ∙ ap (λ line. old ++ line) (sym (take-length usage_line)))

pub returns-clause-err : goal.returns-clause-err
returns-clause-err g c told =
    whole_line c.flush.result _ _ (c.flush.ensures.same told ∙ c.in_ok-write_all.ensures.ok told)
