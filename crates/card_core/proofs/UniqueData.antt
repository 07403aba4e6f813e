-- The data objects of the card's unique data, in slots.
use Rattle.std.proofs.Common.{◌≡◌, ◌⊎◌, inl, inr, ℕ, ◌≤◌, true, ◌==◌, Some, length, refl, subst, arith}
use Rattle.std.proofs.lemmas.Bool.{and_parts, eqb-true}
use Rattle.std.proofs.lemmas.List.Elements.{All-contains}
use Rattle.card_types.proofs.ObjectNames.{objects_shown}
use Rattle.card_core.specs.Prelude.{IsInOrder, IsObject, IsValueIn, IsWellObject, is_tagged_in, thing_in}
use Rattle.card_types.specs.declared.data_objects.TheConstants.{IMAGE_NUMBER, ISSUER_NUMBER}
use Rattle.card_types.specs.declared.search.InSlot.{InSlot}
use Rattle.card_types.specs.declared.tables.Object.{Object}
use Rattle.card_types.specs.declared.tables.Tables.{Tables}
use Rattle.card_types.specs.declared.tables.TheConstants.{ISSUER_SLOT}

small : (tag size : ℕ) → (tag ≡ ISSUER_NUMBER) ⊎ (tag ≡ IMAGE_NUMBER) → IsObject tag size → size ≤ 10
small tag size which (inl is) = is.2
small tag size which (inr (inl is)) = elim which [
  | inl first ↦ absurd (omega (arith, first, is.0))
  | inr second ↦ absurd (omega (arith, second, is.0))
]
small tag size (inl first) (inr (inr (inl is, _, _))) = absurd (omega (arith, first, is))
small tag size (inl first) (inr (inr (inr is, _, _))) = absurd (omega (arith, first, is))
small tag size (inr second) (inr (inr (inl is, _, _))) = absurd (omega (arith, second, is))
small tag size (inr second) (inr (inr (inr is, _, _))) = absurd (omega (arith, second, is))

module _ (tables : Tables) (tag : ℕ) (which : (tag ≡ ISSUER_NUMBER) ⊎ (tag ≡ IMAGE_NUMBER)) (found : InSlot Object)
    (at : thing_in tables.objects.items found.slot ≡ Some found.thing.now) (fitting : is_tagged_in ISSUER_SLOT tag (Some found.thing.now) ≡ true) where
  tagged : (found.thing.now.owner ≡ ISSUER_SLOT) × (found.thing.now.tag ≡ tag)
  tagged =
      let parts = and_parts (found.thing.now.owner == ISSUER_SLOT) (found.thing.now.tag == tag) fitting in
      (eqb-true found.thing.now.owner ISSUER_SLOT parts.0, eqb-true found.thing.now.tag tag parts.1)

  -- what is found is the value
  pub value_found : IsValueIn tables.objects.items tag found.thing.now.value.items
  value_found = inl (found.slot, found.thing.now, at, tagged.0, tagged.1, refl)

  -- the value is short
  pub value_small : IsInOrder tables → length found.thing.now.value.items ≤ 10
  value_small order =
      let there = (objects_shown order.page tables order.said order.says).there found.slot found.thing.now at refl in
      small tag (length found.thing.now.value.items) which
      (subst (λ (t : ℕ). IsObject t (length found.thing.now.value.items)) tagged.1 (All-contains (IsWellObject order.said) order.said.objects _ order.well.objects there).form)
