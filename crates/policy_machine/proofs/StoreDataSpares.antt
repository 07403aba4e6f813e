-- STORE DATA spares the trees in which the acting domain is not.
use Rattle.std.proofs.Common.{◌≡◌, arith, inl, inr, ℕ, List, [], ◌∷◌, refl, ap, sym, subst}
use Rattle.std.specs.Prelude.{Contains, ◌&&◌, ◌==◌}
use Rattle.policy_machine.specs.Prelude.{Element, Key, Object, Registry, acting, is_object_of, managed_store_data, objects_stored, with_data, with_object, with_objects}
use Rattle.card_types.proofs.Members.{contains_cases}
use Rattle.card_types.proofs.NamedThings.{aid_differs}
use Rattle.policy_machine.proofs.SparingForms.{IsManagedSparing}
use Rattle.policy_machine.proofs.TreeKept.{SparesTree}
use Rattle.policy_machine.proofs.TreesOwned.{SameOfOthers, owned_spared, same_arranged, same_list, same_replaced, same_then}

-- objects that are put are the acting domain's, and so are those that go
objects_put : (owner : List ℕ) (objects : List Object) (elements : List Element)
    → SameOfOthers (λ (object : Object). object.owner) owner objects (with_objects owner objects elements)
objects_put owner objects [] = same_list (λ (object : Object). object.owner) owner objects objects refl
objects_put owner objects (element ∷ elements) =
    same_then (λ (object : Object). object.owner) owner objects (with_object owner objects element) (with_objects owner objects (element ∷ elements))
    (same_replaced (λ (object : Object). object.owner) owner (is_object_of owner element.tag) (new ∷ []) objects
    (λ object other. ap (λ b. b && object.tag == element.tag) (aid_differs object.owner owner other)) own)
    (objects_put owner (with_object owner objects element) elements)
  where
    new : Object
    new = record { owner = owner; tag = element.tag; value = element.value }

    own : (object : Object) → Contains (new ∷ []) object → object.owner ≡ owner
    own object is = elim (contains_cases new [] object is) [
      | inl same ↦ ap (λ (o : Object). o.owner) (sym same)
      | inr later ↦ absurd (omega (arith, later.1))
    ]

pub store_data_sparing : IsManagedSparing managed_store_data
store_data_sparing admitted elements changed passed judges put domain apart =
    let registry = admitted.at.registry in
    let others = same_arranged (λ (object : Object). object.owner) (acting admitted) registry.objects (objects_stored admitted elements) put.objects
    (objects_put (acting admitted) registry.objects elements) put.arranged.same in
    subst (λ (r : Registry). SparesTree admitted r domain) (sym put.registry)
    (owned_spared admitted domain apart (with_data registry put.objects) refl (λ file is. is) (λ file is at. is)
    (same_list (λ (key : Key). key.owner) (acting admitted) registry.keys registry.keys refl) others)
