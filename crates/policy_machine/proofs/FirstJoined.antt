-- The first rule that fails, of two lists one after the other.
use Rattle.std.proofs.Common.{◌≡◌, List, [], ◌∷◌, ◌++◌, Option, None, Some, Err, Ok, subst, sym, inl, inr}
use Rattle.std.specs.Prelude.{IfErr, OnOk, Result}
use Rattle.std.specs.Result.{IsErrAnd}
use Rattle.policy_machine.specs.Refusal.{IsFirst}

module _ {R : Type 0} (fails : R → Type 0) (behind : List R) where
  -- it is in the first list
  pub first_within : (rules : List R) (rule : R) → IsFirst fails rules (Some rule) → IsFirst fails (rules ++ behind) (Some rule)
  first_within [] rule is = cc
  first_within (next ∷ rules) rule (inl here) = inl here
  first_within (next ∷ rules) rule (inr later) = inr (later.0, first_within rules rule later.1)

  -- none is
  pub first_after : (rules : List R) (found : Option R) → IsFirst fails rules None → IsFirst fails behind found → IsFirst fails (rules ++ behind) found
  first_after [] found none first = first
  first_after (next ∷ rules) found (inl here) first = (let clash = here.1 in cc)
  first_after (next ∷ rules) found (inr later) first = inr (later.0, first_after rules found later.1 first)

  -- a refusal by the first list is handed on
  pub refused_within : {T : Type 0} (rules : List R) (result : Result T R) (rule : R) → IsErrAnd result (λ r. r ≡ rule)
      → IsFirst fails rules (Some rule) → IfErr result (λ r. IsFirst fails (rules ++ behind) (Some r))
  refused_within rules (Ok value) rule handed first = absurd handed
  refused_within rules (Err other) rule handed first =
      subst (λ (r : R). IsFirst fails (rules ++ behind) (Some r)) (sym handed) (first_within rules rule first)

  -- what the second list says is so of both
  pub passed_after : {T : Type 0} (rules : List R) (result : Result T R) → IsFirst fails rules None → OnOk result (IsFirst fails behind None)
      → OnOk result (IsFirst fails (rules ++ behind) None)
  passed_after rules (Ok value) none first = first_after rules None none first
  passed_after rules (Err rule) none first = first

  pub refused_after : {T : Type 0} (rules : List R) (result : Result T R) → IsFirst fails rules None → IfErr result (λ r. IsFirst fails behind (Some r))
      → IfErr result (λ r. IsFirst fails (rules ++ behind) (Some r))
  refused_after rules (Ok value) none first = first
  refused_after rules (Err rule) none first = first_after rules (Some rule) none first
