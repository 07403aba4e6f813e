-- Whether a domain has a data object with a tag, by slots and by names.
use Rattle.std.proofs.Common.{◌≡◌, ℕ, suc, Bool, false, ◌||◌, ◌==◌, List, [], ◌∷◌, Option, None, Some, refl, ap, sym, ◌∙◌}
use Rattle.std.specs.Prelude.{map}
use Rattle.std.specs.Cmp.{both_ways}
use Rattle.std.specs.List.{list_any}
use Rattle.std.proofs.lemmas.Bool.{and_from, and_parts, eq-eqb, eqb-true}
use Rattle.std.proofs.lemmas.List.Sorted.{list_any-IsPermutation}
use Rattle.card_types.proofs.Domains.{object_owner_is_used, same_domain}
use Rattle.card_types.specs.Registry as registry
use Rattle.policy_slots.specs.Prelude.{Represents, Well, domain_aid, has_object_in, is_object_of, is_tagged_in, object_of, thing_in, things_in}
use Rattle.card_types.specs.declared.tables.Entry.{Entry}
use Rattle.card_types.specs.declared.tables.Tables.{Tables}
use Rattle.policy_machine.proofs.ObjectStored.{is_of_from, is_of_parts}

-- a test of slots that is false of a free one, and one of what they show
any_shown : {T X : Type 0} (q : Option T → Bool) (view : T → X) (p : X → Bool) → q None ≡ false → (slots : List (Option T))
    → ((slot : ℕ) (thing : T) → thing_in slots slot ≡ Some thing → p (view thing) ≡ q (Some thing)) → list_any p (map view (things_in slots)) ≡ list_any q slots
any_shown q view p free [] same = refl
any_shown q view p free (None ∷ slots) same = rw free (any_shown q view p free slots (λ slot. same (suc slot)))
any_shown q view p free (Some thing ∷ slots) same =
    (λ i. same 0 thing refl i || any_shown q view p free slots (λ slot. same (suc slot)) i)

-- whether the domain in a slot has an object with a tag, by its slot and by its name
pub has_alike : (page : ℕ → List ℕ) (tables : Tables) (said : registry.Registry) → Represents page tables said → Well said → (domain : ℕ) (entry : Entry)
    → thing_in tables.entries.items domain ≡ Some entry → (tag : ℕ)
    → list_any (is_object_of (domain_aid tables.entries.items domain) tag) said.objects ≡ has_object_in tables.objects.items domain tag
has_alike page tables said says well domain entry at tag =
    let owner = domain_aid tables.entries.items domain in
    let view = object_of tables.entries.items in
    sym (list_any-IsPermutation (is_object_of owner tag) (map view (things_in tables.objects.items)) said.objects says.objects)
    ∙ any_shown (is_tagged_in domain tag) view (is_object_of owner tag) refl tables.objects.items (λ slot object here.
    both_ways (is_object_of owner tag (view object)) (is_tagged_in domain tag (Some object))
    (λ fits.
    (let parts = is_of_parts owner tag (view object) fits in
    let used_by = object_owner_is_used page tables said says well slot object here in
    let slots = same_domain page tables said says object.owner domain used_by.0 entry used_by.1 at parts.0 in
    and_from (object.owner == domain) (object.tag == tag) (eq-eqb object.owner domain slots) (eq-eqb object.tag tag parts.1)))
    (λ fits.
    (let parts = and_parts (object.owner == domain) (object.tag == tag) fits in
    is_of_from owner tag (view object) (ap (domain_aid tables.entries.items) (eqb-true object.owner domain parts.0)) (eqb-true object.tag tag parts.1))))
