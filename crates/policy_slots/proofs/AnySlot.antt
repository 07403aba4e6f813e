-- A test of slots that one of them passes.
use Rattle.std.proofs.Common.{◌≡◌, inl, inr, ℕ, zero, suc, Bool, true, false, List, [], ◌∷◌, Option, None, Some, refl, ap, ◌∙◌}
use Rattle.std.specs.List.{list_any}
use Rattle.std.proofs.lemmas.Bool.{cases_Bool, or_left, or_right}
use Rattle.card_types.specs.Represents.{thing_in}

module _ {T : Type 0} (test : Option T → Bool) where
  -- where a slot holds a thing that passes, one does
  pub slot_passes : (slots : List (Option T)) (slot : ℕ) (thing : T) → thing_in slots slot ≡ Some thing → test (Some thing) ≡ true → list_any test slots ≡ true
  slot_passes [] slot thing at fits = cc
  slot_passes (first ∷ slots) zero thing at fits = or_left (test first) (list_any test slots) (ap test at ∙ fits)
  slot_passes (first ∷ slots) (suc slot) thing at fits = or_right (test first) (list_any test slots) (slot_passes slots slot thing at fits)

  -- where one passes, and no free one does, a slot holds it
  pub passing_slot : test None ≡ false → (slots : List (Option T)) → list_any test slots ≡ true
      → (slot : ℕ) × (thing : T) × (thing_in slots slot ≡ Some thing) × (test (Some thing) ≡ true)
  passing_slot free [] some = cc
  passing_slot free (None ∷ slots) some = (let rest = passing_slot free slots (rw free at some) in (suc rest.0, rest.1, rest.2, rest.3))
  passing_slot free (Some thing ∷ slots) some = elim (cases_Bool (test (Some thing))) [
    | inl fit ↦ (zero, thing, refl, fit)
    | inr misfit ↦ (let rest = passing_slot free slots (rw misfit at some) in (suc rest.0, rest.1, rest.2, rest.3))
  ]
