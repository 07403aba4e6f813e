-- Staged pages, counted.
use Rattle.std.proofs.Common.{inl, inr, ℕ, ◌+◌, ◌≤◌, List, [], ◌∷◌, length, arith}
use Rattle.std.proofs.lemmas.Bool.{cases_eq}
use Rattle.std.proofs.lemmas.Bool.Decides.{nat_tests}
use Rattle.rec_store.specs.Room.{with_staged}

pub one_more : (staged : List ℕ) (page : ℕ) → length (with_staged staged page) ≤ length staged + 1
one_more [] page = omega arith
one_more (first ∷ rest) page = elim (cases_eq first page) [
  | inl same ↦ grind (arith, nat_tests)
  | inr other ↦ (let later = one_more rest page in grind (arith, nat_tests))
]
