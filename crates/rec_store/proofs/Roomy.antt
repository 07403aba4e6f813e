-- What is so of all things in slots, of one of them.
use Rattle.std.proofs.Common.{◌≡◌, ℕ, zero, suc, ◌<◌, List, [], ◌∷◌, length, Option, None, Some, refl, arith}
use Rattle.std.specs.Prelude.{All, IfSome, slice_set}
use Rattle.std.proofs.lemmas.List.Elements.{All-contains, All-nil, All-cons, All-head, All-tail}
use Rattle.card_types.proofs.Shows.{used_from_held}
use Rattle.card_types.specs.Represents.{things_in, thing_in}

module _ {T : Type 0} (P : T → Type 0) where
  pub of_slot : (slots : List (Option T)) (slot : ℕ) → All P (things_in slots) → IfSome (thing_in slots slot) P
  of_slot slots slot all = of (thing_in slots slot) refl
    where
      of : (thing : Option T) → thing_in slots slot ≡ thing → IfSome thing P
      of None is = tt
      of (Some thing) is = All-contains P (things_in slots) thing all (used_from_held slots slot thing is)

  -- of the first slot and of the others
  with_first : (first : Option T) (rest : List (Option T)) → IfSome first P → All P (things_in rest) → All P (things_in (first ∷ rest))
  with_first None rest one all = all
  with_first (Some thing) rest one all = All-cons P thing (things_in rest) one all

  first_of : (first : Option T) (rest : List (Option T)) → All P (things_in (first ∷ rest)) → IfSome first P
  first_of None rest all = tt
  first_of (Some thing) rest all = All-head P thing (things_in rest) all

  rest_of : (first : Option T) (rest : List (Option T)) → All P (things_in (first ∷ rest)) → All P (things_in rest)
  rest_of None rest all = all
  rest_of (Some thing) rest all = All-tail P thing (things_in rest) all

  -- it stays so of all where a slot gets another thing of which it is so
  pub of_all_set : (slots : List (Option T)) (slot : ℕ) (thing : Option T) → All P (things_in slots) → IfSome thing P → All P (things_in (slice_set slots slot thing))
  of_all_set [] slot thing all one = all
  of_all_set (first ∷ rest) zero thing all one = with_first thing rest one (rest_of first rest all)
  of_all_set (first ∷ rest) (suc slot) thing all one = with_first first (slice_set rest slot thing) (first_of first rest all) (of_all_set rest slot thing (rest_of first rest all) one)

  -- where it is so of each slot, it is so of all
  pub of_all : (slots : List (Option T)) → ((slot : ℕ) → slot < length slots → IfSome (thing_in slots slot) P) → All P (things_in slots)
  of_all [] each = All-nil P
  of_all (first ∷ rest) each = with_first first rest (each 0 (omega arith)) (of_all rest (λ slot lt. each (suc slot) (omega (arith, lt))))
