-- What GET DATA finds, by slots and by names.
use Rattle.std.proofs.Common.{◌≡◌, ◌≢◌, ℕ, ◌<◌, Bool, true, false, ◌&&◌, List, None, Some, refl, sym, subst, ◌∙◌, inl, inr, length, arith}
use Rattle.std.specs.Prelude.{◌==◌}
use Rattle.std.proofs.lemmas.Bool.Decides.{eqb_tells}
use Rattle.std.proofs.lemmas.List.Elements.{All-contains}
use Rattle.policy_rules.specs.Prelude.{HasData, IsDataObject, IsObject, IsSequenceCounter, IsTag, IsWellCounter, IsWellObject, NoneFits, Represents, UsesCounter, Well, counter_bytes, counter_of, domain_aid, follows, object_of, same_aid, thing_in}
use Rattle.card_types.proofs.LeastOfList.{found_fits}
use Rattle.card_types.proofs.ObjectNames.{object_in_slot, object_unnamed, objects_shown}
use Rattle.card_types.specs.Registry as registry
use Rattle.card_types.specs.declared.tables.Entry.{Entry}
use Rattle.card_types.specs.declared.tables.KeyRec.{KeyRec}
use Rattle.card_types.specs.declared.tables.Object.{Object}
use Rattle.card_types.specs.declared.tables.Tables.{Tables}
use Rattle.policy_slots.proofs.OwnKeys.{keys_are, keys_from_none, none_named}

-- each tag that a data object may have is one
tag_of_object : (tag size : ℕ) → IsObject tag size → IsTag tag
tag_of_object tag size (inl (inl short, least, most)) = rw short (inl (refl, omega arith, (λ zero. absurd (omega arith)), (λ on. absurd (omega arith))))
tag_of_object tag size (inl (inr short, least, most)) = rw short (inl (refl, omega arith, (λ zero. absurd (omega arith)), (λ on. absurd (omega arith))))
tag_of_object tag size (inr (inl diversification)) = rw diversification.0 (inl (refl, omega arith, (λ zero. absurd (omega arith)), (λ on. absurd (omega arith))))
tag_of_object tag size (inr (inr (inl long, least, most))) = rw long (inl (refl, omega arith, (λ zero. absurd (omega arith)), (λ on. absurd (omega arith))))
tag_of_object tag size (inr (inr (inr long, least, most))) = rw long (inr (refl, omega arith, refl, (omega arith, omega arith)))

-- those of the keys and the counter are tags too
pub keys_tag : (tag : ℕ) → tag ≡ 0xE0 → IsTag tag
keys_tag tag is = rw is (inl (refl, omega arith, (λ zero. absurd (omega arith)), (λ on. absurd (omega arith))))

pub counter_tag : (tag : ℕ) → tag ≡ 0xC1 → IsTag tag
counter_tag tag is = rw is (inl (refl, omega arith, (λ zero. absurd (omega arith)), (λ on. absurd (omega arith))))

equal_is : (a b : ℕ) → (a == b) ≡ true → a ≡ b
equal_is a b is = elim (eqb_tells a b) [
  | inl same ↦ same.1
  | inr other ↦ (let clash = sym other.0 ∙ is in cc)
]

both : (a b : Bool) → (a && b) ≡ true → (a ≡ true) × (b ≡ true)
both true b is = (refl, is)
both false b is = cc

module _ (page : ℕ → List ℕ) (tables : Tables) (said : registry.Registry) (says : Represents page tables said) (well : Well said) where
  pub object_form : (slot : ℕ) (object : Object) → thing_in tables.objects.items slot ≡ Some object → IsTag object.tag
  object_form slot object here =
      let there = (objects_shown page tables said says).there slot object here refl in
      tag_of_object object.tag (length object.value.items)
      (All-contains (IsWellObject said) said.objects (object_of tables.entries.items object) well.objects there).form

  pub object_tag : (domain tag slot : ℕ) (object : Object) → thing_in tables.objects.items slot ≡ Some object
      → (object.owner == domain && object.tag == tag) ≡ true → IsTag tag
  object_tag domain tag slot object here fits =
      subst IsTag (equal_is object.tag tag (both (object.owner == domain) (object.tag == tag) fits).1) (object_form slot object here)

module _ (page : ℕ → List ℕ) (tables : Tables) (said : registry.Registry) (says : Represents page tables said) (well : Well said)
    (domain : ℕ) (entry : Entry) (at : thing_in tables.entries.items domain ≡ Some entry) where
  abbrev aid : List ℕ
  aid = domain_aid tables.entries.items domain

  pub no_keys : (tag : ℕ) → tag ≡ 0xE0 → NoneFits (follows domain None) tables.keys.items → (value : List ℕ) → HasData said aid tag value → ⊥
  no_keys tag is none value (inl keys) =
      (let found = none_named page tables said says well domain entry at None None tt none in
      let have = keys.1 in
      have.0 (keys_are page tables said says well domain entry at ∙ keys_from_none page tables said says well domain entry at None found))
  no_keys tag is none value (inr (inl counter)) = (let other = counter.0 in absurd (omega arith))
  no_keys tag is none value (inr (inr object)) = object.0 is

  pub no_counter_data : (tag : ℕ) → tag ≡ 0xC1 → ((counter : registry.Counter) → UsesCounter said aid counter → ⊥)
      → (value : List ℕ) → HasData said aid tag value → ⊥
  no_counter_data tag is none value (inl keys) = (let other = keys.0 in absurd (omega arith))
  no_counter_data tag is none value (inr (inl counter)) = (let uses = counter.1 in none uses.0 uses.1)
  no_counter_data tag is none value (inr (inr object)) = object.1 is

  pub no_object_data : (tag : ℕ) → tag ≢ 0xE0 → tag ≢ 0xC1 → NoneFits (λ object. object.owner == domain && object.tag == tag) tables.objects.items
      → (value : List ℕ) → HasData said aid tag value → ⊥
  no_object_data tag keys counter none value (inl other) = keys other.0
  no_object_data tag keys counter none value (inr (inl other)) = counter other.0
  no_object_data tag keys counter none value (inr (inr object)) =
      (let unnamed = object_unnamed page tables said says well domain entry tag at none in
      let named = object.2 in
      let is = named.1 in
      let clash = sym unnamed ∙ is in cc)

  pub counter_data : (key : KeyRec) → UsesCounter said aid (counter_of tables.entries.items key)
      → (key.counter < 0x1000000) × IsSequenceCounter said aid (counter_bytes key.counter)
  counter_data key uses =
      let found = found_fits (λ counter. same_aid counter.owner uses.0) said.counters (counter_of tables.entries.items key) uses.2 in
      let bound = (All-contains (IsWellCounter said) said.counters (counter_of tables.entries.items key) well.counters found.0).number in
      (omega arith, (counter_of tables.entries.items key, uses, refl))

  pub object_data : (tag slot : ℕ) (object : Object) → thing_in tables.objects.items slot ≡ Some object
      → (object.owner == domain && object.tag == tag) ≡ true → (object.tag ≡ tag) × IsTag tag × IsDataObject said aid tag object.value.items
  object_data tag slot object here fits =
      let parts = both (object.owner == domain) (object.tag == tag) fits in
      let own = equal_is object.owner domain parts.0 in
      let tagged = equal_is object.tag tag parts.1 in
      let named = object_in_slot page tables said says slot object here in (
        tagged,
        subst IsTag tagged (object_form page tables said says well slot object here),
        (
          object_of tables.entries.items object,
          subst (λ (t : ℕ). registry.object_named said aid t ≡ Some (object_of tables.entries.items object)) tagged
              (subst (λ (d : ℕ). registry.object_named said (domain_aid tables.entries.items d) object.tag ≡ Some (object_of tables.entries.items object)) own named),
          refl,
        ),
      )
