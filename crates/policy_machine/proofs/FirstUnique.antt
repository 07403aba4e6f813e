-- The first rule of a list that fails, by the parts of the list.
use Rattle.std.proofs.Common.{◌≡◌, List, [], ◌∷◌, ◌++◌, Option, None, Some, sym, subst, ◌∙◌, inl, inr, arith}
use Rattle.std.specs.Prelude.{Contains}
use Rattle.card_types.proofs.Members.{contains_cases}
use Rattle.policy_machine.specs.Refusal.{IsFirst}

module _ {R : Type 0} (fails : R → Type 0) where
  -- there is one at most
  pub one_first : (rules : List R) (a b : Option R) → IsFirst fails rules a → IsFirst fails rules b → a ≡ b
  one_first [] a b first other = first ∙ sym other
  one_first (next ∷ rules) a b (inl first) (inl other) = first.1 ∙ sym other.1
  one_first (next ∷ rules) a b (inl first) (inr other) = absurd (other.0 first.0)
  one_first (next ∷ rules) a b (inr first) (inl other) = absurd (first.0 other.0)
  one_first (next ∷ rules) a b (inr first) (inr other) = one_first rules a b first.1 other.1

  -- where none fails, the next does not, and none after it
  pub passes : (next : R) (rules : List R) → IsFirst fails (next ∷ rules) None → (fails next → ⊥) × IsFirst fails rules None
  passes next rules (inl failed) = (let clash = failed.1 in cc)
  passes next rules (inr passed) = passed

  -- where none fails first, none of the rules fails
  pub none_fails : (rules : List R) (rule : R) → Contains rules rule → IsFirst fails rules None → fails rule → ⊥
  none_fails [] rule (k, within, is) first failed = omega arith
  none_fails (next ∷ rules) rule there first failed =
      let passed = passes next rules first in
      elim (contains_cases next rules rule there) [
        | inl same ↦ passed.0 (subst fails (sym same) failed)
        | inr later ↦ none_fails rules rule later passed.1 failed
      ]

  -- the first that fails, fails
  pub first_fails : (rules : List R) (found : R) → IsFirst fails rules (Some found) → fails found
  first_fails [] found first = cc
  first_fails (next ∷ rules) found (inl first) = (let same : next ≡ found = (let is = first.1 in cc) in subst fails same first.0)
  first_fails (next ∷ rules) found (inr first) = first_fails rules found first.1

  -- rules after others that pass
  pub behind : (front rest : List R) (found : Option R) → IsFirst fails front None → IsFirst fails rest found → IsFirst fails (front ++ rest) found
  behind [] rest found passed first = first
  behind (next ∷ front) rest found (inl failed) first = (let clash = failed.1 in cc)
  behind (next ∷ front) rest found (inr passed) first = inr (passed.0, behind front rest found passed.1 first)
