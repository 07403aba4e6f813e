-- What is there, and what has a name.
use Rattle.std.proofs.Common.{◌≡◌, ℕ, List, Option, None, Some, refl}
use Rattle.std.specs.Prelude.{IsSome}
use Rattle.std.specs.Option.{option_map}

module _ {T : Type 0} where
  pub some_is : (o : Option T) → IsSome o → (x : T) × (o ≡ Some x)
  some_is None is = absurd cc
  some_is (Some x) is = (x, refl)

  pub is_some : (o : Option T) (x : T) → o ≡ Some x → IsSome o
  is_some o x is = rw is refl

  -- where a name is there, what has it is
  pub of_mapped : (name : T → List ℕ) (o : Option T) → IsSome (option_map name o) → IsSome o
  of_mapped name None is = absurd cc
  of_mapped name (Some x) is = refl
