-- Slots of the things of one domain, of which some are freed.
use Rattle.std.proofs.Common.{◌≡◌, ◌≢◌, inl, inr, ℕ, zero, suc, ◌+◌, ◌<◌, ◌==◌, true, false, List, [], ◌∷◌, length, Option, None, Some, refl, ap, sym, ◌∙◌, arith}
use Rattle.std.specs.Prelude.{filter, map, not, slice_set}
use Rattle.std.proofs.lemmas.Bool.{cases_Bool, eq-eqb, eqb-true}
use Rattle.std.proofs.lemmas.List.{get_or-set_other, get_or-set_same}
use Rattle.card_types.specs.Represents.{things_in, thing_in}
use Rattle.registry.specs.Removing.{is_owned, slot_without}

module _ {T : Type 0} (owner : T → ℕ) (domain : ℕ) where
  -- freeing one of them first leaves the same
  pub freed_after : (slots : List (Option T)) (slot : ℕ) → is_owned owner domain (thing_in slots slot) ≡ true
      → map (slot_without owner domain) (slice_set slots slot None) ≡ map (slot_without owner domain) slots
  freed_after [] slot goes = refl
  freed_after (None ∷ slots) zero goes = refl
  freed_after (Some thing ∷ slots) zero goes = rw goes refl
  freed_after (first ∷ slots) (suc slot) goes = ap (λ rest. slot_without owner domain first ∷ rest) (freed_after slots slot goes)

  -- where there is none, all stay
  pub none_freed : (slots : List (Option T)) → ((slot : ℕ) → slot < length slots → is_owned owner domain (thing_in slots slot) ≡ false) → map (slot_without owner domain) slots ≡ slots
  none_freed [] each = refl
  none_freed (first ∷ slots) each =
      let stays : is_owned owner domain first ≡ false = each 0 (omega arith) in
      rw (stays, none_freed slots (λ slot lt. each (suc slot) (omega (arith, lt)))) refl

  -- what a slot holds then
  pub held_freed : (slots : List (Option T)) (slot : ℕ) → thing_in (map (slot_without owner domain) slots) slot ≡ slot_without owner domain (thing_in slots slot)
  held_freed [] slot = refl
  held_freed (first ∷ slots) zero = refl
  held_freed (first ∷ slots) (suc slot) = held_freed slots slot

  -- a thing of another domain stays, and what is in a slot then is one that was there
  pub other_stays : (slots : List (Option T)) (slot : ℕ) (thing : T) → thing_in slots slot ≡ Some thing → owner thing ≢ domain
      → thing_in (map (slot_without owner domain) slots) slot ≡ Some thing
  other_stays slots slot thing at other = held_freed slots slot ∙ ap (slot_without owner domain) at ∙ stays
    where
      stays : slot_without owner domain (Some thing) ≡ Some thing
      stays = elim (cases_Bool (owner thing == domain)) [
        | inl same ↦ absurd (other (eqb-true (owner thing) domain same))
        | inr apart ↦ rw apart refl
      ]

  pub left_there : (slots : List (Option T)) (slot : ℕ) (thing : T) → thing_in (map (slot_without owner domain) slots) slot ≡ Some thing
      → (thing_in slots slot ≡ Some thing) × (owner thing ≢ domain)
  left_there slots slot thing at = by (thing_in slots slot) refl
    where
      by : (o : Option T) → thing_in slots slot ≡ o → (thing_in slots slot ≡ Some thing) × (owner thing ≢ domain)
      by None none = (let clash = sym (ap (slot_without owner domain) none) ∙ sym (held_freed slots slot) ∙ at in cc)
      by (Some x) here = elim (cases_Bool (owner x == domain)) [
        | inl same ↦ (let gone : slot_without owner domain (Some x) ≡ None = rw same refl in let clash = sym gone ∙ sym (ap (slot_without owner domain) here) ∙ sym (held_freed slots slot) ∙ at in cc)
        | inr apart ↦
            (let kept : slot_without owner domain (Some x) ≡ Some x = rw apart refl in
            let alike = sym kept ∙ sym (ap (slot_without owner domain) here) ∙ sym (held_freed slots slot) ∙ at in
            (here ∙ alike, λ owned. (let one : x ≡ thing = cc in let same = eq-eqb (owner x) domain (ap owner one ∙ owned) in cc)))
      ]

  -- the things that stay
  pub used_freed : (slots : List (Option T)) → things_in (map (slot_without owner domain) slots) ≡ filter (λ thing. not (owner thing == domain)) (things_in slots)
  used_freed [] = refl
  used_freed (None ∷ slots) = used_freed slots
  used_freed (Some thing ∷ slots) = elim (cases_Bool (owner thing == domain)) [
    | inl goes ↦ rw (goes, used_freed slots) refl
    | inr stays ↦ rw (stays, used_freed slots) refl
  ]

  -- a slot that is freed held something before
  pub freed_differs : (slots start : List (Option T)) (slot : ℕ) → is_owned owner domain (thing_in slots slot) ≡ true → thing_in slots slot ≡ thing_in start slot
      → slot < length slots → (after : List (Option T)) → after ≡ slice_set slots slot None → thing_in after slot ≢ thing_in start slot
  freed_differs slots start slot goes same within after set alike =
      let free : thing_in after slot ≡ None = ap (λ (s : List (Option T)). thing_in s slot) set ∙ get_or-set_same slots slot None None within in
      let clash : is_owned owner domain None ≡ true = ap (is_owned owner domain) (sym free ∙ alike ∙ sym same) ∙ goes in
      cc

-- the slots after one that is freed hold what they held
pub rest_set : {T : Type 0} (slots start : List (Option T)) (slot : ℕ) → ((k : ℕ) → (k < slot → ⊥) → thing_in slots k ≡ thing_in start k)
    → (k : ℕ) → (k < slot + 1 → ⊥) → thing_in (slice_set slots slot None) k ≡ thing_in start k
rest_set slots start slot rest k high =
    get_or-set_other slots slot k None None (λ same. high (omega (arith, same))) ∙ rest k (λ low. high (omega (arith, low)))
