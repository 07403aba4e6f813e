-- Whether a key set would be left to a root, by slots and by names.
use Rattle.std.proofs.Common.{◌≡◌, ℕ, Bool, true, false, ◌&&◌, List, None, Some, refl, ap, sym, subst, ◌∙◌}
use Rattle.std.specs.Prelude.{find, not, ◌==◌}
use Rattle.std.specs.List.{list_any}
use Rattle.std.proofs.lemmas.Bool.{and_from, and_parts, and_right, not-true, not_from_false}
use Rattle.card_types.proofs.Domains.{domain_is_used, same_domain, step_from_used, step_named}
use Rattle.card_types.proofs.KeyNames.{counters_shown}
use Rattle.card_types.proofs.LeastOfList.{none_fits, none_found}
use Rattle.card_types.proofs.Members.{contains_filter, filtered}
use Rattle.policy_rules.specs.Prelude.{ActsIn, Admitted, Counter, IsLastSet, IsRoot, acting, counter_of, counters_but, domain_aid, domain_slot, holds_counter_but, is_counter_numbered, keeps_counter, keeps_counter_of, same_aid, thing_in}
use Rattle.card_types.specs.declared.tables.KeyRec.{KeyRec}
use Rattle.card_types.specs.declared.tables.Tables.{Tables}
use Rattle.policy_slots.proofs.AnySlot.{passing_slot, slot_passes}
use Rattle.policy_slots.proofs.OwnKeys.{own_is}

-- where both are not true and the first is, the second is not
other_false : (a b : Bool) → not (a && b) ≡ true → a ≡ true → not b ≡ true
other_false true b both first = both
other_false false b both first = cc

module _ (page : ℕ → List ℕ) (tables : Tables) (domain : ℕ) (admitted : Admitted) (acts : ActsIn page tables domain admitted) (version : ℕ) where
  abbrev counters : List Counter
  counters = admitted.at.registry.counters

  -- a root by its slot is one by its name
  root_named : domain_slot tables.entries.items domain ≡ Some domain → IsRoot admitted.at.registry (acting admitted)
  root_named steps = subst (IsRoot admitted.at.registry) (sym acts.on) (step_named page tables admitted.at.registry acts.says domain domain steps)

  -- a root by its name is one by its slot
  pub root_slot : IsRoot admitted.at.registry (acting admitted) → domain_slot tables.entries.items domain ≡ Some domain
  root_slot root =
      let steps = step_from_used tables.entries.items domain acts.entry acts.at in
      let named = step_named page tables admitted.at.registry acts.says domain acts.entry.domain steps in
      let itself : IsRoot admitted.at.registry (domain_aid tables.entries.items domain) = subst (IsRoot admitted.at.registry) acts.on root in
      let alike : domain_aid tables.entries.items acts.entry.domain ≡ domain_aid tables.entries.items domain = cc in
      let above = domain_is_used page tables admitted.at.registry acts.says acts.well domain acts.entry acts.at in
      steps ∙ ap Some (same_domain page tables admitted.at.registry acts.says acts.entry.domain domain above.0 acts.entry above.1 acts.at alike)

  module _ (owner : List ℕ) (named : domain_aid tables.entries.items domain ≡ owner) where
    own : (slot : ℕ) (key : KeyRec) → thing_in tables.keys.items slot ≡ Some key
        → (key.owner == domain) ≡ same_aid (domain_aid tables.entries.items key.owner) owner
    own slot key here =
        subst (λ (aid : List ℕ). (key.owner == domain) ≡ same_aid (domain_aid tables.entries.items key.owner) aid) named
        (own_is page tables admitted.at.registry acts.says acts.well domain acts.entry acts.at slot key here)

    -- none is left by names where none is by slots
    none_left : list_any (holds_counter_but domain version) tables.keys.items ≡ false
        → find (λ counter. same_aid counter.owner owner) (counters_but owner version counters) ≡ None
    none_left none =
        none_found (λ (counter : Counter). same_aid counter.owner owner) (counters_but owner version counters) (λ counter there owned.
        (let kept = filtered (λ (c : Counter). not (is_counter_numbered owner version c)) counters counter there in
        let from = (counters_shown page tables admitted.at.registry acts.says).from counter kept.0 in
        let key = from.1 in
        let mine : (key.owner == domain) ≡ true = own from.0 key from.2 ∙ ap (λ (c : Counter). same_aid c.owner owner) from.4 ∙ owned in
        let other : not (key.version == version) ≡ true =
        ap (λ (c : Counter). not (c.version == version)) from.4 ∙ other_false (same_aid counter.owner owner) (counter.version == version) kept.1 owned in
        let some = slot_passes (holds_counter_but domain version) tables.keys.items from.0 key from.2
        (and_from (keeps_counter_of domain key) (not (key.version == version)) (and_from (keeps_counter key) (key.owner == domain) from.3 mine) other) in
        let clash = sym some ∙ none in cc))

    -- a key set is left by names where one is left by slots
    one_left : list_any (holds_counter_but domain version) tables.keys.items ≡ true
        → find (λ counter. same_aid counter.owner owner) (counters_but owner version counters) ≡ None → ⊥
    one_left some none =
        let at = passing_slot (holds_counter_but domain version) refl tables.keys.items some in
        let key = at.1 in
        let parts = and_parts (keeps_counter_of domain key) (not (key.version == version)) at.3 in
        let keeps = and_parts (keeps_counter key) (key.owner == domain) parts.0 in
        let owned : same_aid (domain_aid tables.entries.items key.owner) owner ≡ true = sym (own at.0 key at.2) ∙ keeps.1 in
        let counter = counter_of tables.entries.items key in
        let among = (counters_shown page tables admitted.at.registry acts.says).there at.0 key at.2 keeps.0 in
        let other : not (is_counter_numbered owner version counter) ≡ true =
        not_from_false (is_counter_numbered owner version counter) (and_right (same_aid counter.owner owner) (key.version == version) (not-true (key.version == version) parts.1)) in
        none_fits (λ (c : Counter). same_aid c.owner owner) (counters_but owner version counters) none counter
        (contains_filter (λ (c : Counter). not (is_counter_numbered owner version c)) counters counter among other) owned

  pub last_set : domain_slot tables.entries.items domain ≡ Some domain → list_any (holds_counter_but domain version) tables.keys.items ≡ false
      → IsLastSet admitted version
  last_set root none = (root_named root, none_left (acting admitted) (sym acts.on) none)

  pub set_left : list_any (holds_counter_but domain version) tables.keys.items ≡ true → IsLastSet admitted version → ⊥
  set_left some last = one_left (acting admitted) (sym acts.on) some last.1
