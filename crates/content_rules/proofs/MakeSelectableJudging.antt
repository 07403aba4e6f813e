-- The rules of INSTALL [for make selectable] after its form, by its request.
use Rattle.std.proofs.Common.{◌≡◌, ◌≢◌, ℕ, List, [], ◌∷◌, Option, None, Some, refl, ap, sym, subst, ◌∙◌, inl, inr}
use Rattle.std.specs.Prelude.{MatchOption}
use Rattle.content_rules.specs.Prelude.{Above, ActsIn, Admitted, IsFirst, IsSelectableOf, MakingSelectableFails, MayManage, aid_of, domain_slot, entry_named, entry_of, is_installed, managed_selectable, thing_in}
use Rattle.card_types.specs.Registry as registry
use Rattle.card_types.specs.declared.found.Found.TheVariants as found
use Rattle.card_types.specs.declared.tables.Entry.{Entry}
use Rattle.card_types.specs.declared.tables.Tables.{Tables}
use Rattle.policy_machine.specs.declared.make_selectable.RuleMS.{RuleMS}
use Rattle.policy_machine.specs.declared.make_selectable.RuleMS.TheVariants.{MS1, MS2, MS3, MS4, MS5}
use Rattle.content_rules.proofs.PrivilegesGiven.{others_given, same_given}
use Rattle.content_rules.specs.declared.make_selectable.SelectableRequest.{SelectableRequest}
use Rattle.policy_slots.proofs.ThingsFound.{IsEntryAt, above_by_aids, above_by_slots, acting_at, entry_at, named_as}

module _ (page : ℕ → List ℕ) (tables : Tables) (domain : ℕ) (admitted : Admitted) (acts : ActsIn page tables domain admitted)
    (request : SelectableRequest) (is : IsSelectableOf request admitted.command) where
  abbrev Fails : RuleMS → Type 0
  Fails = MakingSelectableFails admitted is.given

  pub unmanaged_first : (MayManage admitted → ⊥) → IsFirst Fails managed_selectable.judged.own.order (Some MS1)
  unmanaged_first fails = inl (fails, refl)

  pub unknown_first : MayManage admitted → entry_named admitted.at.registry request.aid ≡ None → IsFirst Fails managed_selectable.judged.own.order (Some MS2)
  unknown_first manages none =
      inr ((λ fails. fails manages), inl ((ap (entry_named admitted.at.registry) (sym is.aid) ∙ none), refl))

  module _ (manages : MayManage admitted) (slot : ℕ) (named : aid_of tables (found.Entry slot) ≡ Some request.aid) where
    there : IsEntryAt tables admitted.at.registry slot is.given.third
    there = entry_at page tables admitted.at.registry acts.says slot is.given.third (named ∙ ap Some is.aid)

    known : Fails MS2 → ⊥
    known none = (let some = there.named in cc)

    pub elsewhere_first : (Above (domain_slot tables.entries.items) domain slot → ⊥) → IsFirst Fails managed_selectable.judged.own.order (Some MS3)
    elsewhere_first not_above = inr (
      (λ fails. fails manages),
      inr (
        known,
        inl (
          (λ above. not_above (above_by_slots page tables admitted.at.registry acts.says acts.well domain slot _ _ (acting_at page tables domain admitted acts) there above)),
          refl,
        ),
      ),
    )

    module _ (above : Above (domain_slot tables.entries.items) domain slot) (entry : Entry) (at : thing_in tables.entries.items slot ≡ Some entry) where
      below : Fails MS3 → ⊥
      below fails =
          fails (above_by_aids page tables admitted.at.registry acts.says acts.well domain slot _ _ (acting_at page tables domain admitted acts) there above)

      abbrev OfNamed : (registry.Entry → Type 0) → Option registry.Entry → Type 0
      OfNamed holds named = MatchOption named ⊥ holds

      -- what is so of the entry that is named is so of that in the slot
      of_slot : (holds : registry.Entry → Type 0) → OfNamed holds (entry_named admitted.at.registry is.given.third)
          → holds (entry_of tables.entries.items tables.files.items entry)
      of_slot holds so = subst (OfNamed holds) (named_as tables admitted.at.registry slot is.given.third there entry at) so

      of_named : (holds : registry.Entry → Type 0) → holds (entry_of tables.entries.items tables.files.items entry)
          → OfNamed holds (entry_named admitted.at.registry is.given.third)
      of_named holds so = subst (OfNamed holds) (sym (named_as tables admitted.at.registry slot is.given.third there entry at)) so

      pub other_life_first : entry.life ≢ is_installed → IsFirst Fails managed_selectable.judged.own.order (Some MS4)
      other_life_first other =
          inr ((λ fails. fails manages), inr (known, inr (below, inl (of_named (λ e. e.life ≢ is_installed) other, refl))))

      module _ (life : entry.life ≡ is_installed) where
        installed : Fails MS4 → ⊥
        installed fails = of_slot (λ e. e.life ≢ is_installed) fails life

        last : (found : Option RuleMS) → IsFirst Fails (MS5 ∷ []) found → IsFirst Fails managed_selectable.judged.own.order found
        last found rest = inr ((λ fails. fails manages), inr (known, inr (below, inr (installed, rest))))

        pub others_first : MatchOption request.privileges ⊥ (λ these. entry.privileges ≢ these) → IsFirst Fails managed_selectable.judged.own.order (Some MS5)
        others_first differ =
            let others = others_given entry.privileges is.given.privileges request.privileges is.privileges differ in
            last (Some MS5) (inl ((others.0, others.1, of_named (λ e. e.privileges ≢ others.0) others.2), refl))

        pub own_passes : (MatchOption request.privileges ⊥ (λ these. entry.privileges ≢ these) → ⊥) → IsFirst Fails managed_selectable.judged.own.order None
        own_passes alike =
            last None (inr (
              (λ fails. same_given entry.privileges is.given.privileges request.privileges is.privileges alike fails.0 fails.1
                  (of_slot (λ e. e.privileges ≢ fails.0) fails.2)),
              refl,
            ))
