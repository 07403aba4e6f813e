-- Data objects in slots, and those that the registry has by names.
use Rattle.std.proofs.Common.{◌≡◌, ℕ, Bool, true, ◌==◌, ◌&&◌, List, None, Some, refl, ap, sym, ◌∙◌}
use Rattle.std.specs.Prelude.{find}
use Rattle.std.specs.Cmp.{IsTotalOrder}
use Rattle.std.specs.Ordering.{nat_cmp}
use Rattle.std.specs.declared.cmp.Ordering.TheVariants.{Equal}
use Rattle.std.proofs.lemmas.Bool.{and_from, and_parts, eq-eqb, eqb-true}
use Rattle.std.proofs.lemmas.Cmp.{nat_cmp_total, nat_list_cmp_total, on_total, then_total, tied_itself}
use Rattle.card_types.specs.Aid.{same_aid}
use Rattle.card_types.specs.Registry.{object_order, object_named}
use Rattle.card_types.specs.Search.{IsLeast, NoneFits}
use Rattle.card_types.specs.Registry as registry
use Rattle.card_types.specs.Represents.{Represents, domain_aid, object_of, thing_in}
use Rattle.card_types.specs.Well.{Well}
use Rattle.card_types.specs.declared.tables.Entry.{Entry}
use Rattle.card_types.specs.declared.tables.Object.{Object}
use Rattle.card_types.specs.declared.tables.Tables.{Tables}
use Rattle.card_types.proofs.Domains.{object_owner_is_used, same_domain}
use Rattle.card_types.proofs.SameAid.{aid_same_equal, aid_same_itself, same_aid_decides}
use Rattle.card_types.proofs.Shows.{Shows, least_shown, none_shown, one_slot, only_shown, shows_used}

pub object_order_total : IsTotalOrder object_order
object_order_total =
    then_total (on_total (λ (object : registry.Object). object.owner) nat_list_cmp_total) (on_total (λ (object : registry.Object). object.tag) nat_cmp_total)

same_number : (a b : ℕ) → a ≡ b → nat_cmp a b ≡ Equal
same_number a b same = ap (nat_cmp a) (sym same) ∙ tied_itself nat_cmp_total a

module _ (page : ℕ → List ℕ) (tables : Tables) (said : registry.Registry) (says : Represents page tables said) where
  pub objects_shown : Shows (object_of tables.entries.items) (λ _. true) tables.objects.items said.objects
  objects_shown = shows_used (object_of tables.entries.items) tables.objects.items said.objects says.objects

  alike : (owner : List ℕ) (tag : ℕ) (other : registry.Object) → (same_aid other.owner owner && other.tag == tag) ≡ true
      → (other.owner ≡ owner) × (other.tag ≡ tag)
  alike owner tag other fits =
      let parts = and_parts (same_aid other.owner owner) (other.tag == tag) fits in
      ((same_aid_decides other.owner owner).0 parts.0, eqb-true other.tag tag parts.1)

  pub object_in_slot : (slot : ℕ) (object : Object) → thing_in tables.objects.items slot ≡ Some object
      → object_named said (domain_aid tables.entries.items object.owner) object.tag ≡ Some (object_of tables.entries.items object)
  object_in_slot slot object at =
      let owner = domain_aid tables.entries.items object.owner in
      only_shown (object_of tables.entries.items) (λ _. true) tables.objects.items said.objects objects_shown object_order object_order_total says.ascending.objects
      (λ other. same_aid other.owner owner && other.tag == object.tag) slot object at refl
      (and_from (same_aid owner owner) (object.tag == object.tag) (aid_same_itself owner) (eq-eqb object.tag object.tag refl))
      (λ other fits.
      (let same = alike owner object.tag other fits in
      rw (aid_same_equal owner other.owner (sym same.0)) (same_number object.tag other.tag (sym same.1))))

  pub least_object : (p : registry.Object → Bool) (slot : ℕ) (object : Object)
      → IsLeast (λ o. p (object_of tables.entries.items o)) (λ x y. object_order (object_of tables.entries.items x) (object_of tables.entries.items y)) tables.objects.items slot object
      → find p said.objects ≡ Some (object_of tables.entries.items object)
  least_object p slot object is =
      least_shown (object_of tables.entries.items) (λ _. true) tables.objects.items said.objects objects_shown object_order object_order_total says.ascending.objects p slot object
      (record { at = is.at; fitting = is.fitting; least = is.least })

  pub no_object : (p : registry.Object → Bool) → NoneFits (λ o. p (object_of tables.entries.items o)) tables.objects.items → find p said.objects ≡ None
  no_object p none = none_shown (object_of tables.entries.items) (λ _. true) tables.objects.items said.objects objects_shown p none

  -- a domain in a slot has no object of this tag where no slot has one of that slot
  pub object_unnamed : Well said → (owner : ℕ) (entry : Entry) (tag : ℕ) → thing_in tables.entries.items owner ≡ Some entry
      → NoneFits (λ object. object.owner == owner && object.tag == tag) tables.objects.items
      → object_named said (domain_aid tables.entries.items owner) tag ≡ None
  object_unnamed well owner entry tag at none =
      no_object (λ other. same_aid other.owner (domain_aid tables.entries.items owner) && other.tag == tag) (λ slot object here fits.
      (let same = alike (domain_aid tables.entries.items owner) tag (object_of tables.entries.items object) fits in
      let domain = object_owner_is_used page tables said says well slot object here in
      let slots : object.owner ≡ owner = same_domain page tables said says object.owner owner domain.0 entry domain.1 at same.0 in
      none slot object here (and_from (object.owner == owner) (object.tag == tag) (eq-eqb object.owner owner slots) (eq-eqb object.tag tag same.1))))

  -- no two slots have objects of one owner slot and tag
  pub one_object_slot : (a b : ℕ) (x y : Object) → thing_in tables.objects.items a ≡ Some x → thing_in tables.objects.items b ≡ Some y
      → x.owner ≡ y.owner → x.tag ≡ y.tag → a ≡ b
  one_object_slot a b x y at_a at_b owner tag =
      one_slot (object_of tables.entries.items) tables.objects.items said.objects says.objects object_order object_order_total says.ascending.objects a b x y at_a at_b
      (rw (aid_same_equal _ _ (ap (domain_aid tables.entries.items) owner)) (same_number x.tag y.tag tag))
