-- Keys that stay and keys that go, slot by slot.
use Rattle.std.proofs.Common.{◌≡◌, inl, inr, ℕ, zero, suc, ◌<◌, Bool, true, false, ◌&&◌, List, [], ◌∷◌, length, Option, None, Some, refl, ap, arith}
use Rattle.std.specs.Prelude.{filter, not, slice_set}
use Rattle.std.specs.List.{list_any}
use Rattle.std.specs.List.Sorted.{IsPermutation}
use Rattle.std.proofs.lemmas.Bool.{cases_Bool, or_parts}
use Rattle.std.proofs.lemmas.List.Sorted.{IsPermutation-sym}
use Rattle.card_types.specs.Represents.{things_in, thing_in}
use Rattle.card_types.specs.declared.tables.KeyRec.{KeyRec}
use Rattle.card_types.proofs.ChangedSlot.{set_shown}
use Rattle.key_rules.specs.InSlots.{holds_one_of}
use Rattle.key_rules.specs.Staying.{is_of, staying}

-- a test of slots that is false of a free one, and one of the things in them
module _ {T : Type 0} (q : Option T → Bool) (p : T → Bool) (free : q None ≡ false) (same : (thing : T) → q (Some thing) ≡ p thing) where
  pub any_used : (slots : List (Option T)) → list_any q slots ≡ list_any p (things_in slots)
  any_used [] = refl
  any_used (None ∷ slots) = rw free (any_used slots)
  any_used (Some thing ∷ slots) = rw (same thing, any_used slots) refl

  pub count_used : (slots : List (Option T)) → length (filter q slots) ≡ length (filter p (things_in slots))
  count_used [] = refl
  count_used (None ∷ slots) = rw free (count_used slots)
  count_used (Some thing ∷ slots) = elim (cases_Bool (p thing)) [
    | inl fits ↦ rw (same thing, fits) (ap suc (count_used slots))
    | inr misfits ↦ rw (same thing, misfits) (count_used slots)
  ]

pub filter_both : {T : Type 0} (p q : T → Bool) (things : List T) → filter q (filter p things) ≡ filter (λ thing. p thing && q thing) things
filter_both p q [] = refl
filter_both p q (thing ∷ things) = elim (cases_Bool (p thing)) [
  | inl fits ↦ rw (fits, filter_both p q things)
  | inr misfits ↦ rw (misfits, filter_both p q things)
]

module _ (owner version : ℕ) where
  -- the keys that stay are the same after one that goes is gone
  pub stay_after : (slots : List (Option KeyRec)) (slot : ℕ) → holds_one_of owner version (thing_in slots slot) ≡ true
      → staying owner version (slice_set slots slot None) ≡ staying owner version slots
  stay_after [] slot goes = refl
  stay_after (None ∷ slots) zero goes = refl
  stay_after (Some key ∷ slots) zero goes = rw goes refl
  stay_after (None ∷ slots) (suc slot) goes = stay_after slots slot goes
  stay_after (Some key ∷ slots) (suc slot) goes = rw (stay_after slots slot goes) refl

  -- where none goes, all stay
  pub all_stay : (slots : List (Option KeyRec)) → ((slot : ℕ) → slot < length slots → holds_one_of owner version (thing_in slots slot) ≡ false)
      → staying owner version slots ≡ things_in slots
  all_stay [] each = refl
  all_stay (None ∷ slots) each = all_stay slots (λ slot lt. each (suc slot) (omega (arith, lt)))
  all_stay (Some key ∷ slots) each =
      let first : is_of owner version key ≡ false = each 0 (omega arith) in
      rw (first, all_stay slots (λ slot lt. each (suc slot) (omega (arith, lt)))) refl

module _ {T : Type 0} where
  -- a free slot takes a thing
  pub put_in : (slots : List (Option T)) (slot : ℕ) (thing : T) → slot < length slots → thing_in slots slot ≡ None
      → IsPermutation (things_in (slice_set slots slot (Some thing))) (thing ∷ things_in slots)
  put_in slots slot thing within free = IsPermutation-sym _ _ (rw free at (set_shown (λ (o : Option T). o) slots slot (Some thing) within))

-- where the domain has no such keys, all stay
pub none_goes : (owner version : ℕ) (keys : List KeyRec) → list_any (is_of owner version) keys ≡ false → filter (λ key. not (is_of owner version key)) keys ≡ keys
none_goes owner version [] none = refl
none_goes owner version (key ∷ keys) none =
    let parts = or_parts (is_of owner version key) (list_any (is_of owner version) keys) none in
    rw (parts.0, none_goes owner version keys parts.1) refl
