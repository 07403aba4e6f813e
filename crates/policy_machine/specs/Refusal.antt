-- How a rule refuses: its name, and the status word that it gives (ISO/IEC 7816-4:2013, 5.6).
use Rattle.std.specs.Prelude.{ℕ, List, ◌≡◌, ◌⊎◌, [], ◌∷◌, Option, None, Some}

pub record Refusal : Type 0 where
  pub name : List ℕ
  pub status : ℕ

abbrev pub refusal : List ℕ → ℕ → Refusal
refusal name status = record { name = name; status = status }

-- the first rule of the list that fails, or none
abbrev pub IsFirst : {R : Type 0} → (R → Type 0) → List R → Option R → Type 0
IsFirst fails [] found = found ≡ None
IsFirst fails (next ∷ rules) found = (fails next × (found ≡ Some next)) ⊎ ((fails next → ⊥) × IsFirst fails rules found)
