-- A list that shows the things in slots that are listed.
use Rattle.std.proofs.Common.{◌≡◌, inl, inr, ℕ, ◌≤◌, Bool, true, List, [], ◌∷◌, length, Option, None, Some, refl, ap, sym, subst, arith}
use Rattle.std.specs.Prelude.{filter, find, map}
use Rattle.std.specs.Cmp.{IsTotalOrder}
use Rattle.std.specs.List.Sorted.{IsPermutation, IsStrictlySortedBy}
use Rattle.std.specs.Option.{option_map}
use Rattle.std.specs.declared.cmp.Ordering.{Ordering}
use Rattle.std.proofs.lemmas.Bool.{cases_Bool}
use Rattle.std.proofs.lemmas.List.{length-map}
use Rattle.std.proofs.lemmas.List.Sorted.{length_permutation}
use Rattle.card_types.proofs.Shows.{least_shown, none_shown, shows_kept}
use Rattle.card_types.specs.Search.{IsLeast, NoneFits}
use Rattle.card_types.specs.Represents.{things_in}
use Rattle.gp_tool.specs.Listing.{comes_past, is_past_last}

module _ {T X : Type 0} (named : T → X) (listed : T → Bool) (slots : List (Option T)) (xs : List X) (same : IsPermutation (map named (filter listed (things_in slots))) xs) where
  pub none_listed : (c : X → X → Ordering) (last : Option T) → NoneFits (comes_past named listed c last) slots
      → find (is_past_last c (option_map named last)) xs ≡ None
  none_listed c last none = none_shown named listed slots xs (shows_kept named listed slots xs same) (is_past_last c (option_map named last)) none

  pub next_listed : (c : X → X → Ordering) → IsTotalOrder c → IsStrictlySortedBy c xs → (last : Option T) (slot : ℕ) (thing : T)
      → IsLeast (comes_past named listed c last) (λ a b. c (named a) (named b)) slots slot thing → find (is_past_last c (option_map named last)) xs ≡ Some (named thing)
  next_listed c total sorted last slot thing is =
      least_shown named listed slots xs (shows_kept named listed slots xs same) c total sorted (is_past_last c (option_map named last)) slot thing is

-- no more are listed than there are slots
filtered_few : {T : Type 0} (p : T → Bool) (ts : List T) → length (filter p ts) ≤ length ts
filtered_few p [] = omega arith
filtered_few p (t ∷ ts) = elim (cases_Bool (p t)) [
  | inl fits ↦ (let rest = filtered_few p ts in rw fits (omega arith))
  | inr misfits ↦ (let rest = filtered_few p ts in rw misfits (omega arith))
]

used_few : {T : Type 0} (slots : List (Option T)) → length (things_in slots) ≤ length slots
used_few [] = omega arith
used_few (None ∷ slots) = (let rest = used_few slots in omega arith)
used_few (Some t ∷ slots) = (let rest = used_few slots in omega arith)

pub listed_few : {T X : Type 0} (view : T → X) (keep : T → Bool) (slots : List (Option T)) (xs : List X)
    → IsPermutation (map view (filter keep (things_in slots))) xs → length xs ≤ length slots
listed_few view keep slots xs same =
    let size = length_permutation (map view (filter keep (things_in slots))) xs same in
    omega (arith, length-map (filter keep (things_in slots)) view, filtered_few keep (things_in slots), used_few slots)

-- where all are listed, all are
pub all_listed : {T X : Type 0} (view : T → X) (slots : List (Option T)) (xs : List X) → IsPermutation (map view (things_in slots)) xs
    → IsPermutation (map view (filter (λ _. true) (things_in slots))) xs
all_listed {T} view slots xs same = subst (λ (ts : List T). IsPermutation (map view ts) xs) (sym (kept (things_in slots))) same
  where
    kept : (ts : List T) → filter (λ _. true) ts ≡ ts
    kept [] = refl
    kept (t ∷ ts) = ap (λ rest. t ∷ rest) (kept ts)
