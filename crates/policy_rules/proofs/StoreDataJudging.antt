-- How STORE DATA is judged after its form: objects are counted by slots.
use Rattle.std.proofs.Common.{inl, inr, ℕ, ◌≤◌, ◌<◌, List, length, sym, subst, arith, ◌≡◌, ap, ◌∙◌, ◌+◌, None, Some, refl, Option}
use Rattle.std.specs.Prelude.{map}
use Rattle.std.proofs.lemmas.List.Sorted.{length_permutation, IsPermutation-refl}
use Rattle.policy_rules.specs.Prelude.{ActsIn, Admitted, AreElements, Element, FailsFirst, HasObjects, IsFirst, Judges, ManagementFails, StoreDataField, StoringFails, TakesCommand, acting, command_form, has_object_in, is_object_of, managed_store_data, new_tags, object_of, objects_stored, things_in}
use Rattle.card_types.specs.declared.limits.TheConstants.{OBJECTS}
use Rattle.policy_machine.specs.declared.rule.Rule.TheVariants.{SD}
use Rattle.policy_machine.specs.declared.store_data.RuleSD.TheVariants.{SD1}
use Rattle.std.specs.List.{list_any}
use Rattle.std.proofs.lemmas.List.{length-map}
use Rattle.card_types.specs.declared.tables.Tables.{Tables}
use Rattle.policy_machine.proofs.StoredCount.{stored_count}
use Rattle.policy_slots.proofs.ObjectsNamed.{has_alike}
use Rattle.policy_machine.specs.declared.management.RuleM.TheVariants.{M1, M2}
use Rattle.policy_machine.proofs.Judging.{judged}
use Rattle.policy_machine.specs.declared.rule.Rule.{Rule}
use Rattle.policy_machine.proofs.ManagedJudging.{two_pass, own_refuses, approval_decides}
use Rattle.policy_machine.proofs.StoreDataLaws.{store_judgeable}

module _ (page : ℕ → List ℕ) (tables : Tables) (domain : ℕ) (admitted : Admitted) (acts : ActsIn page tables domain admitted) where
  -- the objects that there would be are counted by slots
  pub counted : (elements : List Element) → length (things_in tables.objects.items) + new_tags (has_object_in tables.objects.items domain) elements ≡ length (objects_stored admitted elements)
  counted elements =
      let said = admitted.at.registry in
      let view = object_of tables.entries.items in
      let number = length_permutation (map view (things_in tables.objects.items)) said.objects acts.says.objects in
      let all = stored_count (acting admitted) (has_object_in tables.objects.items domain) said.objects said.objects elements
      (record { ascending = acts.says.ascending.objects; same = IsPermutation-refl said.objects })
      (λ tag. ap (λ (aid : List ℕ). list_any (is_object_of aid tag) said.objects) acts.on ∙ has_alike page tables said acts.says acts.well domain acts.entry acts.at tag) in
      omega (arith, number, length-map (things_in tables.objects.items) view, all)

  module _ (objects : List ℕ) (same : objects ≡ admitted.command.body) (field : StoreDataField admitted.command.body) (number new : ℕ)
      (number_is : number ≡ length (things_in tables.objects.items))
      (new_is : (elements : List Element) → AreElements elements objects → new ≡ new_tags (has_object_in tables.objects.items domain) elements) where
    are_so_many : (elements : List Element) → HasObjects admitted.command.body elements → number + new ≡ length (objects_stored admitted elements)
    are_so_many elements has =
        let by_slots = new_is elements (subst (AreElements elements) (sym same) has.spelled) in
        let all = counted elements in
        omega (arith, number_is, by_slots, all)

    -- there are too many exactly where the rule fails
    pub too_many : OBJECTS < number + new → StoringFails admitted field.0 SD1
    too_many above = (let all = are_so_many field.0 field.1 in omega (arith, above, all))

    pub few_enough : number + new ≤ OBJECTS → StoringFails admitted field.0 SD1 → ⊥
    few_enough below above = (let all = are_so_many field.0 field.1 in omega (arith, below, above, all))

    pub full_first : (ManagementFails admitted M1 → ⊥) × (ManagementFails admitted M2 → ⊥) → OBJECTS < number + new → FailsFirst (command_form managed_store_data) admitted (Some (SD SD1))
    full_first managed above =
        own_refuses managed_store_data.judged store_judgeable admitted field.0 field.1 (two_pass managed) SD1 (inl (too_many above, refl))

    pub none_first : (ManagementFails admitted M1 → ⊥) × (ManagementFails admitted M2 → ⊥) → number + new ≤ OBJECTS → FailsFirst (command_form managed_store_data) admitted None
    none_first managed below =
        approval_decides managed_store_data.judged store_judgeable admitted field.0 field.1 (two_pass managed) None (inr (few_enough below, refl)) refl

pub store_judged : (admitted : Admitted) (found : Option Rule) → TakesCommand (command_form managed_store_data) admitted.command → IsFirst ((command_form managed_store_data).fails admitted) (command_form managed_store_data).rules found
    → Judges admitted found
store_judged admitted found takes first = judged (command_form managed_store_data) (λ P is. inl is) admitted takes refl found first
