-- A command that is judged passes exactly where none of its rules fails.
use Rattle.std.proofs.Common.{◌≡◌, Bool, true, None, Some, Result, Ok, Err, sym, ◌∙◌}
use Rattle.std.specs.Prelude.{◌↔◌, IfErr, List, OnOk}
use Rattle.std.specs.Result.{is_ok}
use Rattle.policy_machine.proofs.FirstUnique.{one_first}
use Rattle.policy_machine.specs.Refusal.{IsFirst}

pub passes_told : {T R : Type 0} (fails : R → Type 0) (rules : List R) (result : Result T R) → OnOk result (IsFirst fails rules None)
    → IfErr result (λ rule. IsFirst fails rules (Some rule)) → (told : Bool) → told ≡ is_ok result → (told ≡ true) ↔ IsFirst fails rules None
passes_told fails rules (Ok found) passed refused told is = (λ so. passed, λ first. is)
passes_told fails rules (Err rule) passed refused told is =
    (λ so. (let clash = sym so ∙ is in cc), λ first. (let clash = one_first fails rules None (Some rule) first refused in cc))
