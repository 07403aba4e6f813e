-- The rules of PUT KEY after those of card content management, by slots and by names.
use Rattle.std.proofs.Common.{◌≡◌, ◌≢◌, ℕ, true, false, List, [], ◌∷◌, Option, None, Some, Err, Ok, length, refl, ap, sym, subst, ◌∙◌, inl, inr, arith}
use Rattle.std.specs.Prelude.{OnOk, Result, filter}
use Rattle.policy_rules.specs.Prelude.{ActsIn, Admitted, IsFirst, IsRequestOf, KeysAsked, ManagementFails, NoneHolds, PutFails, PuttingKeyFails, SaysChecks, acting, command_form, has_key_version, key_count, key_rules, keys_but, keys_left, managed_put_key, own_keys_left, same_aid, sent_keys, version_rules}
use Rattle.card_types.specs.declared.tables.Tables.{Tables}
use Rattle.key_rules.specs.PutFails as slots
use Rattle.key_rules.specs.Staying as slots_of
use Rattle.key_rules.specs.declared.refusal.PutRefusal.{PutRefusal}
use Rattle.key_rules.specs.declared.refusal.PutRefusal.TheVariants.{Unknown, Taken, Full}
use Rattle.policy_machine.specs.declared.management.RuleM.TheVariants.{M1, M2}
use Rattle.policy_machine.specs.declared.put_key.RulePK.TheVariants.{PK1, PK2, PK3, PK4}
use Rattle.policy_machine.specs.declared.rule.Rule.{Rule}
use Rattle.policy_machine.specs.declared.rule.Rule.TheVariants.{PK}
use Rattle.policy_machine.specs.declared.put_key.RulePK.{RulePK}
use Rattle.policy_machine.proofs.PutKeyOnce.{one_put, put_fails}
use Rattle.policy_rules.specs.declared.put_key.PutKeys.{PutKeys}
use Rattle.policy_rules.specs.declared.request.Request.TheVariants.{PutKey}
use Rattle.policy_slots.proofs.KeyCounts as by_slots
use Rattle.policy_slots.proofs.KeysByName.{has_version_by_name}
use Rattle.policy_slots.proofs.ManagementFirst.{after_management}

module _ (page : ℕ → List ℕ) (tables : Tables) (domain : ℕ) (admitted : Admitted) (acts : ActsIn page tables domain admitted)
    (replaced version : ℕ) (keys : PutKeys) (request : IsRequestOf (PutKey replaced version keys) admitted.command) where
  abbrev Fails : PutRefusal → Type 0
  Fails = PutFails domain replaced version (length (sent_keys keys)) tables.keys.items

  has_is : (v : ℕ) → slots.has_version domain v tables.keys.items ≡ has_key_version admitted.at.registry (acting admitted) v
  has_is v =
      has_version_by_name page tables admitted.at.registry acts.says acts.well domain acts.entry acts.at v
      ∙ ap (λ (o : List ℕ). has_key_version admitted.at.registry o v) (sym acts.on)

  -- what its request asks for
  abbrev asked : KeysAsked
  asked = record { version = version; sent = sent_keys keys }

  abbrev FailsFor : RulePK → Type 0
  FailsFor = PuttingKeyFails admitted asked

  -- a rule fails of the command exactly where it fails for that
  of_put : (rule : RulePK) → FailsFor rule → (command_form managed_put_key).fails admitted (PK rule)
  of_put rule fails = (asked, request.means.1, (rule, refl, fails))

  for_put : (rule : RulePK) → (command_form managed_put_key).fails admitted (PK rule) → FailsFor rule
  for_put rule fails =
      subst (λ (other : KeysAsked). PuttingKeyFails admitted other rule)
      (one_put admitted.command.p1 admitted.command.p2 admitted.command.body fails.0 asked fails.1 request.means.1) (put_fails admitted rule fails)

  unknown_fails : Fails Unknown → (command_form managed_put_key).fails admitted (PK PK1)
  unknown_fails fails =
      let p1 = request.means.0 in
      of_put PK1 (subst (λ (r : ℕ). (r ≢ 0) × (has_key_version admitted.at.registry (acting admitted) r ≡ false)) p1 (fails.0, sym (has_is replaced) ∙ fails.1))

  unknown_from : (command_form managed_put_key).fails admitted (PK PK1) → Fails Unknown
  unknown_from fails =
      let p1 = request.means.0 in
      let here = subst (λ (r : ℕ). (r ≢ 0) × (has_key_version admitted.at.registry (acting admitted) r ≡ false)) (sym p1) (for_put PK1 fails) in
      (here.0, has_is replaced ∙ here.1)

  abbrev IsTaken : ℕ → ℕ → Type 0
  IsTaken v r = (v ≢ r) × (has_key_version admitted.at.registry (acting admitted) v ≡ true)

  taken_fails : Fails Taken → (command_form managed_put_key).fails admitted (PK PK2)
  taken_fails fails = of_put PK2 (subst (λ (r : ℕ). IsTaken version r) request.means.0 (fails.0, sym (has_is version) ∙ fails.1))

  taken_from : (command_form managed_put_key).fails admitted (PK PK2) → Fails Taken
  taken_from fails =
      let here = subst (λ (r : ℕ). IsTaken version r) (sym request.means.0) (for_put PK2 fails) in
      (here.0, has_is version ∙ here.1)

  stay_count : length (slots_of.staying domain replaced tables.keys.items) ≡ length (keys_left admitted)
  stay_count =
      by_slots.stay_count page tables admitted.at.registry acts.says acts.well domain acts.entry acts.at replaced
      ∙ (λ i. length (keys_but (sym acts.on i) (request.means.0 i) admitted.at.registry.keys))

  own_count : length (slots.keys_of_owner domain (slots_of.staying domain replaced tables.keys.items)) ≡ length (own_keys_left admitted)
  own_count =
      by_slots.own_count page tables admitted.at.registry acts.says acts.well domain acts.entry acts.at replaced
      ∙ (λ i. length (filter (λ key. same_aid key.owner (sym acts.on i)) (keys_but (sym acts.on i) (request.means.0 i) admitted.at.registry.keys)))

  full_fails : Fails Full → (command_form managed_put_key).fails admitted (PK PK4)
  full_fails fails =
      let stays = stay_count in
      let own = own_count in
      let count : length (sent_keys keys) ≡ key_count admitted.command.p2 = request.means.1.count in
      of_put PK4 (elim fails [
        | inl card ↦ inl (omega arith)
        | inr few ↦ inr (omega arith)
      ])

  full_from : (command_form managed_put_key).fails admitted (PK PK4) → Fails Full
  full_from fails =
      let stays = stay_count in
      let own = own_count in
      let count : length (sent_keys keys) ≡ key_count admitted.command.p2 = request.means.1.count in
      elim (for_put PK4 fails) [
        | inl card ↦ inl (omega arith)
        | inr few ↦ inr (omega arith)
      ]

  module _ (m1 : ManagementFails admitted M1 → ⊥) (m2 : ManagementFails admitted M2 → ⊥) where
    behind : (found : Option Rule) → IsFirst ((command_form managed_put_key).fails admitted) (PK PK1 ∷ PK PK2 ∷ []) found → IsFirst ((command_form managed_put_key).fails admitted) version_rules found
    behind found rest = after_management ((command_form managed_put_key).fails admitted) (PK PK1 ∷ PK PK2 ∷ []) found m1 m2 rest

    pub unknown_first : Fails Unknown → IsFirst ((command_form managed_put_key).fails admitted) version_rules (Some (PK PK1))
    unknown_first fails = behind (Some (PK PK1)) (inl (unknown_fails fails, refl))

    module _ (known : Fails Unknown → ⊥) where
      pub taken_first : Fails Taken → IsFirst ((command_form managed_put_key).fails admitted) version_rules (Some (PK PK2))
      taken_first fails = behind (Some (PK PK2)) (inr ((λ other. known (unknown_from other)), inl (taken_fails fails, refl)))

      pub versions_pass : (Fails Taken → ⊥) → IsFirst ((command_form managed_put_key).fails admitted) version_rules None
      versions_pass free = behind None (inr ((λ fails. known (unknown_from fails)), inr ((λ fails. free (taken_from fails)), refl)))

  -- a check value is another
  pub check_first : SaysChecks false admitted → IsFirst ((command_form managed_put_key).fails admitted) key_rules (Some (PK PK3))
  check_first other = inl (other, refl)

  module _ (fits : SaysChecks true admitted) where
    pub full_first : Fails Full → IsFirst ((command_form managed_put_key).fails admitted) key_rules (Some (PK PK4))
    full_first full = inr (fits, inl (full_fails full, refl))

    pub keys_pass : (Fails Full → ⊥) → IsFirst ((command_form managed_put_key).fails admitted) key_rules None
    keys_pass room = inr (fits, inr ((λ fails. room (full_from fails)), refl))

-- none of the refusals holds
pub none_holds : (fails : PutRefusal → Type 0) → (fails Unknown → ⊥) → (fails Taken → ⊥) → (fails Full → ⊥) → NoneHolds fails
none_holds fails known free room Unknown = known
none_holds fails known free room Taken = free
none_holds fails known free room Full = room

pub roomy_ok : {T E : Type 0} (fails : PutRefusal → Type 0) (result : Result T E) → (fails Unknown → ⊥) → (fails Taken → ⊥) → OnOk result (fails Full → ⊥)
    → OnOk result (NoneHolds fails)
roomy_ok fails (Ok value) known free room = none_holds fails known free room
roomy_ok fails (Err error) known free room = room
