-- For the code inside. What stands for a device with a plan of its faults around it.
use Rattle.std.specs.Prelude.{◌≡◌, ℕ, zero, suc, Bool, true, false, Option, Some, None, Result, IsErr}
use Rattle.faults.specs.Faults.{next_count}

-- the device inside, the plan, and how many calls were refused
pub record Faulty (F P : Type 0) : Type 0 where
  pub inner : F
  pub plan : P
  pub refused : ℕ

-- a call of it was refused: it did not reach the device inside
pub record IsCallRefused {F P T E : Type 0} (old new : Faulty F P) (result : Result T E) : Type 0 where
  pub failed : IsErr result
  pub inner : new.inner ≡ old.inner
  pub refused : new.refused ≡ next_count old.refused

-- where one call fails after so many that pass: whether this one passes
abbrev pub passes_once : Option ℕ → Bool
passes_once None = true
passes_once (Some zero) = false
passes_once (Some (suc n)) = true

-- and how many pass before it from then on, until it has come
abbrev pub waits_after : Option ℕ → Option ℕ
waits_after None = None
waits_after (Some zero) = None
waits_after (Some (suc n)) = Some n
