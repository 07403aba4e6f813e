-- What follows from what is said of an option.
use Rattle.std.proofs.Common.{Option, None, Some}
use Rattle.std.specs.Prelude.{IfSome, IfNone}

pub some_of_some : {A : Type 0} {P Q : A → Type 0} (o : Option A) → IfSome o P → ((x : A) → P x → Q x) → IfSome o Q
some_of_some None is more = tt
some_of_some (Some x) is more = more x is

pub none_of_none : {A : Type 0} {P Q : Type 0} (o : Option A) → IfNone o P → (P → Q) → IfNone o Q
none_of_none None is more = more is
none_of_none (Some x) is more = tt
