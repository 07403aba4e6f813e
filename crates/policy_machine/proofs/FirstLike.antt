-- The first rule that fails, where each fails as another does.
use Rattle.std.proofs.Common.{◌≡◌, List, [], ◌∷◌, Option, None, Err, Ok, refl, sym, ap, subst, inl, inr}
use Rattle.std.specs.Prelude.{IfErr, Result, map}
use Rattle.std.specs.Option.{option_map}
use Rattle.std.specs.Result.{IsErrAnd}
use Rattle.policy_machine.specs.Refusal.{IsFirst}

-- two conditions of failing that are so of the same rules
pub first_like : {R : Type 0} (fails others : R → Type 0) → ((rule : R) → fails rule → others rule) → ((rule : R) → others rule → fails rule)
    → (rules : List R) (found : Option R) → IsFirst fails rules found → IsFirst others rules found
first_like fails others to from [] found first = first
first_like fails others to from (next ∷ rules) found (inl here) = inl (to next here.0, here.1)
first_like fails others to from (next ∷ rules) found (inr later) = inr (λ other. later.0 (from next other), first_like fails others to from rules found later.1)

-- none of the rules fails
pub none_first : {R : Type 0} (fails : R → Type 0) → ((rule : R) → fails rule → ⊥) → (rules : List R) → IsFirst fails rules None
none_first fails none [] = refl
none_first fails none (next ∷ rules) = inr (none next, none_first fails none rules)

-- rules of one group among those of all
pub first_of_group : {Q R : Type 0} (wrap : Q → R) (fails : R → Type 0) (rules : List Q) (found : Option Q) → IsFirst (λ rule. fails (wrap rule)) rules found
    → IsFirst fails (map wrap rules) (option_map wrap found)
first_of_group wrap fails [] found first = ap (option_map wrap) first
first_of_group wrap fails (next ∷ rules) found (inl here) = inl (here.0, ap (option_map wrap) here.1)
first_of_group wrap fails (next ∷ rules) found (inr later) = inr (later.0, first_of_group wrap fails rules found later.1)

-- a refusal that is handed on
pub handed_on : {T R : Type 0} (P : R → Type 0) (result : Result T R) (rule : R) → IsErrAnd result (λ r. r ≡ rule) → P rule → IfErr result P
handed_on P (Ok value) rule handed is = absurd handed
handed_on P (Err other) rule handed is = subst P (sym handed) is
