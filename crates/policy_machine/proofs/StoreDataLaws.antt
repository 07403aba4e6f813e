-- The laws of STORE DATA.
use Rattle.std.proofs.Common.{ℕ, ◌≤◌, List, [], ◌∷◌, length, sym, arith, ap, ◌∙◌, refl}
use Rattle.std.specs.Prelude.{All, filter, not}
use Rattle.std.proofs.lemmas.List.Elements.{All-cons, All-filter, All-head, All-tail}
use Rattle.std.proofs.lemmas.List.Sorted.{All-permutation, length_permutation, IsPermutation-sym, IsPermutation-trans}
use Rattle.policy_machine.specs.Prelude.{Element, IsArranged, IsAscending, IsDomainNamed, IsJudgeable, IsObject, IsWellObject, Object, Registry, Well, acting, is_object_of, managed_store_data, object_order, objects_stored, with_data, with_object, with_objects}
use Rattle.card_types.specs.declared.limits.TheConstants.{OBJECTS}
use Rattle.policy_machine.specs.declared.store_data.RuleSD.TheVariants.{SD1}
use Rattle.card_types.proofs.ChangeExists.{one_order}
use Rattle.card_types.proofs.ObjectNames.{object_order_total}
use Rattle.policy_machine.proofs.StoreDataElements.{one_list}
use Rattle.policy_machine.proofs.SameThings.{same_fits}
use Rattle.policy_machine.proofs.DataWell.{data_well}
use Rattle.policy_machine.proofs.ManagedLawful.{IsManagedLawful, KeepsCard, LeavesOne, may_follow, undelegated}

module _ (registry : Registry) (owner : List ℕ) (domain : IsDomainNamed registry owner) where
  -- those that are put are ones that the domain may have
  pub stored_well : (elements : List Element) (objects : List Object) → All (IsWellObject registry) objects
      → All (λ element. IsObject element.tag (length element.value)) elements → All (IsWellObject registry) (with_objects owner objects elements)
  stored_well [] objects each forms = each
  stored_well (element ∷ elements) objects each forms =
      let P = λ (e : Element). IsObject e.tag (length e.value) in
      stored_well elements (with_object owner objects element)
      (All-cons (IsWellObject registry) (record { owner = owner; tag = element.tag; value = element.value })
      (filter (λ object. not (is_object_of owner element.tag object)) objects)
      (record { owner = domain; form = All-head P element elements forms })
      (All-filter (λ object. not (is_object_of owner element.tag object)) (IsWellObject registry) objects each))
      (All-tail P element elements forms)

  -- the objects in order are ones that the domain may have
  pub arranged_well : Well registry → (elements : List Element) (objects : List Object) → All (λ element. IsObject element.tag (length element.value)) elements
      → IsArranged object_order (with_objects owner registry.objects elements) objects → length (with_objects owner registry.objects elements) ≤ OBJECTS
      → Well (with_data registry objects)
  arranged_well well elements objects forms arranged few =
      let put = with_objects owner registry.objects elements in
      let number = length_permutation put objects arranged.same in
      data_well registry objects well (omega (arith, number, few))
      (All-permutation (IsWellObject registry) put objects arranged.same (stored_well elements registry.objects well.objects forms))

pub data_ascending : (registry : Registry) (things objects : List Object) → IsAscending registry → IsArranged object_order things objects
    → IsAscending (with_data registry objects)
data_ascending registry things objects ascending arranged =
    record { entries = ascending.entries; files = ascending.files; keys = ascending.keys; counters = ascending.counters; objects = arranged.ascending }

pub store_judgeable : IsJudgeable managed_store_data.judged
store_judgeable = record { one_asked = λ p1 p2 body a b one other. one_list a b body one.spelled other.spelled; own = λ rule. tt; one_rule = λ a b same. cc; approving = tt }

-- it changes data objects alone
storing_keeps : KeepsCard managed_store_data
storing_keeps admitted elements changed passed put =
    let registry = admitted.at.registry in
    let fits = passed.own SD1 (0, omega arith, refl) in
    may_follow admitted (with_data registry put.objects) changed put.registry
    (record {
      well = arranged_well registry (acting admitted) passed.domain passed.sound.well elements put.objects passed.asks.each put.arranged (omega (arith, fits));
      ascending = data_ascending registry (objects_stored admitted elements) put.objects passed.sound.ascending put.arranged;
    })
    (same_fits registry registry.life registry.keys registry.counters put.objects admitted.at.volatile passed.sound.fits)

put_once : LeavesOne managed_store_data
put_once admitted elements a b has one other =
    let things = objects_stored admitted elements in
    let objects = one_order object_order object_order_total one.objects other.objects one.arranged.ascending other.arranged.ascending
    (IsPermutation-trans one.objects things other.objects (IsPermutation-sym things one.objects one.arranged.same) other.arranged.same) in
    one.registry ∙ ap (with_data admitted.at.registry) objects ∙ sym other.registry

pub managed_store_data_lawful : IsManagedLawful managed_store_data
managed_store_data_lawful = undelegated managed_store_data (λ admitted delegated. delegated) store_judgeable storing_keeps put_once
