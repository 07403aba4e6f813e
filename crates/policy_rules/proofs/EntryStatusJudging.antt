-- The rules of SET STATUS of an entry after its form, by its request.
use Rattle.std.proofs.Common.{◌≡◌, ◌≢◌, ◌⊎◌, ℕ, Bool, true, false, List, Option, None, Some, refl, ap, sym, subst, ◌∙◌, inl, inr, arith}
use Rattle.std.specs.Prelude.{IfNone, IfSome, MatchOption}
use Rattle.std.specs.Option.{option_map}
use Rattle.std.proofs.lemmas.Bool.{eq-eqb, eqb-true}
use Rattle.card_types.proofs.SameAid.{same_aid_decides}
use Rattle.policy_rules.specs.Prelude.{ActsIn, Admitted, FailsFirst, IsAid, IsChangeFor, IsDomainNamed, IsEntryStatusOf, IsEntryStep, IsSlotStep, ManagementFails, Marks, MaySet, OwnFirst, SettingStatusFails, TellsCard, aid_of, command_form, entry_named, entry_of, is_domain, managed_entry_status, same_aid, thing_in}
use Rattle.card_types.specs.Registry as registry
use Rattle.card_types.specs.declared.factory.TheConstants.{ISSUER}
use Rattle.card_types.specs.declared.found.Found.TheVariants as found
use Rattle.card_types.specs.declared.life.LifeMark.{LifeMark}
use Rattle.card_types.specs.declared.tables.Entry.{Entry}
use Rattle.card_types.specs.declared.tables.Tables.{Tables}
use Rattle.policy_machine.specs.declared.entry_status.RuleSS.{RuleSS}
use Rattle.policy_machine.specs.declared.entry_status.RuleSS.TheVariants.{SS1, SS2, SS3, SS4}
use Rattle.policy_machine.specs.declared.management.RuleM.TheVariants.{M2, M3}
use Rattle.policy_machine.specs.declared.rule.Rule.TheVariants.{SS}
use Rattle.policy_rules.specs.declared.entry_status.EntryStatusRequest.{EntryStatusRequest}
use Rattle.policy_rules.specs.declared.entry_status.StatusChange.TheVariants.{One, Tree}
use Rattle.policy_slots.proofs.ThingsFound.{IsEntryAt, entry_at, named_as}
use Rattle.policy_machine.proofs.EntryStatusLaws.{entry_status_judgeable}
use Rattle.policy_machine.proofs.ManagedJudging.{two_pass, own_refuses, approval_decides}

-- its own rules after those of management
pub own_status_first : (admitted : Admitted) → IsAid admitted.command.body → (ManagementFails admitted M2 → ⊥) × (ManagementFails admitted M3 → ⊥)
    → (found : Option RuleSS) → OwnFirst managed_entry_status.judged admitted tt found → FailsFirst (command_form managed_entry_status) admitted (option_map SS found)
own_status_first admitted field managed None first =
    approval_decides managed_entry_status.judged entry_status_judgeable admitted tt field (two_pass managed) None first refl
own_status_first admitted field managed (Some rule) first =
    own_refuses managed_entry_status.judged entry_status_judgeable admitted tt field (two_pass managed) rule first

-- P1 by the request
module _ (request : EntryStatusRequest) (admitted : Admitted) (is : IsEntryStatusOf request admitted.command) where
  pub of_all : request.tree ≡ true → admitted.command.p1 ≡ 0x60
  of_all all = eqb-true admitted.command.p1 0x60 (sym is.tree ∙ all)

  pub of_one : request.tree ≡ false → admitted.command.p1 ≡ 0x40
  of_one one = elim is.parameters [
    | inl is_one ↦ is_one
    | inr all ↦ (let clash = sym one ∙ is.tree ∙ eq-eqb admitted.command.p1 0x60 all in cc)
  ]

  pub one_of : admitted.command.p1 ≡ 0x40 → request.tree ≡ false
  one_of one = by request.tree refl
    where
      by : (tree : Bool) → request.tree ≡ tree → request.tree ≡ false
      by true at = absurd (let all = of_all at in omega (arith, all, one))
      by false at = at

  -- it is no SET STATUS of the card
  pub not_card : TellsCard false admitted
  not_card = ((λ so. (let clash = so in cc)), (λ card. absurd (other is.parameters card)))
    where
      other : (admitted.command.p1 ≡ 0x40) ⊎ (admitted.command.p1 ≡ 0x60) → admitted.command.p1 ≡ 0x80 → ⊥
      other (inl one) card = omega arith
      other (inr all) card = omega arith

-- a step leads to another life cycle state or lock mark
pub step_other : (request : EntryStatusRequest) (entry : Entry) (life : LifeMark) → IsSlotStep request entry life → entry.life ≢ life
step_other request entry life (inl marks) same = marks.1 (ap (λ (l : LifeMark). l.locked) same)
step_other request entry life (inr personalizes) same = (let clash = ap (λ (l : LifeMark). l.life) (sym personalizes.3 ∙ same ∙ personalizes.4) in cc)

-- the entry that is named, in its slot
module _ (page : ℕ → List ℕ) (tables : Tables) (domain : ℕ) (admitted : Admitted) (acts : ActsIn page tables domain admitted)
    (request : EntryStatusRequest) (is : IsEntryStatusOf request admitted.command) where
  pub unknown : request.tree ≡ false → entry_named admitted.at.registry request.aid ≡ None → SettingStatusFails admitted SS1
  unknown one none = inl (ap (entry_named admitted.at.registry) (sym is.aid) ∙ none)

  pub no_domain : request.tree ≡ true → (IsDomainNamed admitted.at.registry request.aid → ⊥) → SettingStatusFails admitted SS1
  no_domain all none = inr (of_all request admitted is all, (λ there. none (subst (IsDomainNamed admitted.at.registry) (sym is.aid) there)))

  pub all_unknown : (result : Option ℕ) → request.tree ≡ true → IfNone result (IsDomainNamed admitted.at.registry request.aid → ⊥) → IfNone result (SettingStatusFails admitted SS1)
  all_unknown None all none = no_domain all none
  all_unknown (Some slot) all none = none

  pub one_unknown : (result : Option ℕ) → request.tree ≡ false → IfNone result (entry_named admitted.at.registry request.aid ≡ None) → IfNone result (SettingStatusFails admitted SS1)
  one_unknown None one none = unknown one none
  one_unknown (Some slot) one none = none

  -- it is the Issuer Security Domain where its AID is that
  pub issuer_fails : (test : Bool) → test ≡ same_aid request.aid ISSUER → test ≡ true → SettingStatusFails admitted SS2
  issuer_fails test told so = sym is.aid ∙ (same_aid_decides request.aid ISSUER).0 (sym told ∙ so)

  pub issuer_passes : (test : Bool) → test ≡ same_aid request.aid ISSUER → test ≡ false → SettingStatusFails admitted SS2 → ⊥
  issuer_passes test told not_ same = (let hit = (same_aid_decides request.aid ISSUER).1 (is.aid ∙ same) in let clash = sym hit ∙ sym told ∙ not_ in cc)

  module _ (slot : ℕ) (named : aid_of tables (found.Entry slot) ≡ Some request.aid) where
    pub there : IsEntryAt tables admitted.at.registry slot admitted.command.body
    there = entry_at page tables admitted.at.registry acts.says slot admitted.command.body (named ∙ ap Some is.aid)

    pub one_known : request.tree ≡ false → SettingStatusFails admitted SS1 → ⊥
    one_known one (inl none) = (let some = there.named in cc)
    one_known one (inr all) = (let p1 = of_one request admitted is one in let other = all.0 in omega arith)

    pub all_known : IsDomainNamed admitted.at.registry request.aid → SettingStatusFails admitted SS1 → ⊥
    all_known is_domain (inl none) = (let some = there.named in cc)
    all_known is_domain (inr all) = all.1 (subst (IsDomainNamed admitted.at.registry) is.aid is_domain)

    module _ (entry : Entry) (at : thing_in tables.entries.items slot ≡ Some entry) where
      abbrev by_name : registry.Entry
      by_name = entry_of tables.entries.items tables.files.items entry

      abbrev OfNamed : (registry.Entry → Type 0) → Option registry.Entry → Type 0
      OfNamed holds o = MatchOption o ⊥ holds

      here : entry_named admitted.at.registry admitted.command.body ≡ Some by_name
      here = named_as tables admitted.at.registry slot admitted.command.body there entry at

      -- a step of the entry in the slot is one of the entry by its name
      step_named : (life : LifeMark) → IsSlotStep request entry life → IsEntryStep admitted.command.p1 admitted.command.p2 by_name life
      step_named life (inl marks) =
          inl (record { mark = subst (λ (code : ℕ). Marks code life.locked) is.life marks.0; other = marks.1; stays = marks.2 })
      step_named life (inr personalizes) = inr (record {
        one = of_one request admitted is personalizes.0;
        code = sym is.life ∙ personalizes.1;
        domain = personalizes.2;
        selectable = personalizes.3;
        becomes = personalizes.4;
      })

      step_in_slot : (life : LifeMark) → IsEntryStep admitted.command.p1 admitted.command.p2 by_name life → IsSlotStep request entry life
      step_in_slot life (inl marks) =
          inl (subst (λ (code : ℕ). Marks code life.locked) (sym is.life) marks.mark, marks.other, marks.stays)
      step_in_slot life (inr personalizes) =
          inr (one_of request admitted is personalizes.one, is.life ∙ personalizes.code, personalizes.domain, personalizes.selectable, personalizes.becomes)

      pub stepless : ((life : LifeMark) → IsSlotStep request entry life → ⊥) → SettingStatusFails admitted SS4
      stepless none =
          subst (OfNamed (λ e. (life : LifeMark) → IsEntryStep admitted.command.p1 admitted.command.p2 e life → ⊥)) (sym here)
          (λ life step. none life (step_in_slot life step))

      pub steps : (life : LifeMark) → IsSlotStep request entry life → SettingStatusFails admitted SS4 → ⊥
      steps life step fails =
          subst (OfNamed (λ e. (life : LifeMark) → IsEntryStep admitted.command.p1 admitted.command.p2 e life → ⊥)) here fails life (step_named life step)

      pub one_change : (life : LifeMark) → request.tree ≡ false → IsSlotStep request entry life → IsChangeFor admitted (One slot life)
      one_change life one step = (
        of_one request admitted is one,
        subst (OfNamed (λ e. IsEntryStep admitted.command.p1 admitted.command.p2 e life)) (sym here) (step_named life step),
      )

      pub tree_change : (life : LifeMark) → request.tree ≡ true → IsSlotStep request entry life → IsChangeFor admitted (Tree slot life.locked)
      tree_change life all (inl marks) = (
        of_all request admitted is all,
        subst (λ (code : ℕ). Marks code life.locked) is.life marks.0,
      )
      tree_change life all (inr personalizes) = (let clash = sym all ∙ personalizes.0 in cc)

module _ (page : ℕ → List ℕ) (tables : Tables) (domain : ℕ) (admitted : Admitted) (acts : ActsIn page tables domain admitted)
    (request : EntryStatusRequest) (is : IsEntryStatusOf request admitted.command) where
  pub all_found : (result : Option ℕ) → IfSome result (λ slot. aid_of tables (found.Entry slot) ≡ Some request.aid)
      → IfSome result (λ slot. IsDomainNamed admitted.at.registry request.aid) → IfSome result (λ slot. SettingStatusFails admitted SS1 → ⊥)
  all_found None named is_domain = named
  all_found (Some slot) named is_domain = all_known page tables domain admitted acts request is slot named is_domain

  pub one_found : (result : Option ℕ) → request.tree ≡ false → IfSome result (λ slot. aid_of tables (found.Entry slot) ≡ Some request.aid)
      → IfSome result (λ slot. SettingStatusFails admitted SS1 → ⊥)
  one_found None one named = named
  one_found (Some slot) one named = one_known page tables domain admitted acts request is slot named one

-- the first of the form's own rules that fails
module _ (admitted : Admitted) where
  abbrev First : Option RuleSS → Type 0
  First found = OwnFirst managed_entry_status.judged admitted tt found

  abbrev Passes : RuleSS → Type 0
  Passes rule = SettingStatusFails admitted rule → ⊥

  pub first_1 : SettingStatusFails admitted SS1 → First (Some SS1)
  first_1 fails = inl (fails, refl)

  pub first_2 : Passes SS1 → SettingStatusFails admitted SS2 → First (Some SS2)
  first_2 one fails = inr (one, inl (fails, refl))

  pub first_3 : Passes SS1 → Passes SS2 → (MaySet admitted → ⊥) → First (Some SS3)
  first_3 one two barred =
      inr (one, inr (two, inl (((λ above. barred (inl (inl above))), (λ holds. barred (inl (inr holds))), (λ itself. barred (inr itself))), refl)))

  allowed : MaySet admitted → Passes SS3
  allowed (inl (inl above)) fails = fails.0 above
  allowed (inl (inr holds)) fails = fails.1 holds
  allowed (inr itself) fails = fails.2 itself

  pub first_4 : Passes SS1 → Passes SS2 → MaySet admitted → SettingStatusFails admitted SS4 → First (Some SS4)
  first_4 one two may fails = inr (one, inr (two, inr (allowed may, inl (fails, refl))))

  pub none_first : Passes SS1 → Passes SS2 → MaySet admitted → Passes SS4 → First None
  none_first one two may four = inr (one, inr (two, inr (allowed may, inr (four, refl))))
