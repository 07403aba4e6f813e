-- The rules of DELETE of an object after its form, by its request.
use Rattle.std.proofs.Common.{◌≡◌, ◌≢◌, ◌↔◌, ◌⊎◌, inl, inr, ℕ, true, false, List, length, Option, Some, refl, ap, sym, subst, ◌∙◌, arith}
use Rattle.std.specs.Prelude.{IsSome, MatchOption}
use Rattle.std.specs.Option.{option_map}
use Rattle.std.proofs.lemmas.Bool.{eqb-false, eqb-true}
use Rattle.card_types.proofs.FoundNames.{found_entry_named, found_file_named, none_found_none_named}
use Rattle.content_rules.specs.Prelude.{Above, ActsIn, Admitted, ComesFrom, DeletingFails, IsDeletionOf, IsFileInCharge, IsFrom, IsInCharge, IsInUse, IsInUseIn, IsToGo, RepresentsState, acting, aid_of, domain_slot, thing_in}
use Rattle.card_types.specs.Registry as registry
use Rattle.card_types.specs.declared.factory.TheConstants.{FACTORY_FILE, ISSUER}
use Rattle.card_types.specs.declared.found.Found.{Found}
use Rattle.card_types.specs.declared.found.Found.TheVariants as found
use Rattle.card_types.specs.declared.tables.Entry.{Entry}
use Rattle.card_types.specs.declared.tables.Tables.{Tables}
use Rattle.policy_machine.specs.declared.delete_object.RuleDO.TheVariants.{DO1, DO2, DO4}
use Rattle.policy_machine.specs.declared.channels.TheConstants.{CHANNELS}
use Rattle.content_rules.proofs.DeleteObjectNames.{entry_no_source, file_alone, file_unloaded, file_unselected, from_named, from_slots, loaded_named, others_named, selected_named}
use Rattle.content_rules.proofs.DeleteObjectSlots.{from_used}
use Rattle.content_rules.specs.declared.delete_object.DeletionRequest.{DeletionRequest}
use Rattle.policy_slots.proofs.ChargeNamed.{above_alike}
use Rattle.policy_slots.proofs.FileCharge.{entry_no_file}
use Rattle.policy_slots.proofs.ThingsFound.{acting_named, entry_at}
use Rattle.policy_slots.specs.declared.live.Live.{Live}

module _ (page : ℕ → List ℕ) (tables : Tables) (domain : ℕ) (admitted : Admitted) (acts : ActsIn page tables domain admitted) where
  -- an entry is in the charge of the domains above it
  charge_alike : (slot : ℕ) (aid : List ℕ) → aid_of tables (found.Entry slot) ≡ Some aid
      → IsInCharge admitted.at.registry (acting admitted) aid ↔ Above (domain_slot tables.entries.items) domain slot
  charge_alike slot aid named =
      let said = admitted.at.registry in
      let alike = above_alike page tables said acts.says acts.well domain slot (acting admitted) aid (acting_named page tables domain admitted acts) named in
      let none = entry_no_file page tables said acts.says aid acts.well slot named in
      let there = entry_at page tables said acts.says slot aid named in (
        λ charge. elim charge [
          | inl above ↦ alike.1 above.1
          | inr file ↦ absurd (subst (λ (o : Option registry.LoadFile). MatchOption o ⊥ (IsFileInCharge said (acting admitted))) none file)
        ],
        λ above. inl (subst IsSome (sym there.named) refl, alike.0 above),
      )

  -- what comes from an Executable Load File and is not in the charge of the domain
  module _ (slot : ℕ) (named : List ℕ) (at : aid_of tables (found.File slot) ≡ Some named) where
    pub strangers_alike : ((other : ℕ) × IsFrom tables slot other × (Above (domain_slot tables.entries.items) domain other → ⊥))
        ↔ ((aid : List ℕ) × ComesFrom admitted.at.registry named aid × (IsInCharge admitted.at.registry (acting admitted) aid → ⊥))
    strangers_alike = (
      λ stranger.
          (let there = from_used tables slot stranger.0 stranger.1 in
          let aid : aid_of tables (found.Entry stranger.0) ≡ Some there.0.aid = ap (option_map (λ (e : Entry). e.aid)) there.1 in (
            there.0.aid,
            from_named page tables admitted.at.registry acts.says acts.well slot named at stranger.0 there.0 there.1 there.2,
            λ charge. stranger.2 ((charge_alike stranger.0 there.0.aid aid).0 charge),
          )),
      λ stranger.
          (let there = from_slots page tables admitted.at.registry acts.says acts.well slot named at stranger.0 stranger.1 in
          let aid : aid_of tables (found.Entry there.0) ≡ Some stranger.0 = ap (option_map (λ (e : Entry). e.aid)) there.2 ∙ ap Some there.3 in
          (there.0, there.4, λ above. stranger.2 ((charge_alike there.0 stranger.0 aid).1 above))),
    )

  -- what of an entry that is to go is not in its charge
  pub entry_outside : (slot : ℕ) (named : List ℕ) → aid_of tables (found.Entry slot) ≡ Some named → IsInCharge admitted.at.registry (acting admitted) named
      → (aid : List ℕ) → IsToGo admitted named aid → IsInCharge admitted.at.registry (acting admitted) aid
  entry_outside slot named at charge aid (inl same) = subst (IsInCharge admitted.at.registry (acting admitted)) (sym same) charge
  entry_outside slot named at charge aid (inr comes) = absurd (entry_no_source page tables admitted.at.registry acts.says acts.well slot named at aid comes.1)

  module _ (request : DeletionRequest) (is : IsDeletionOf request admitted.command) where
    at_asked : (thing : Found) → aid_of tables thing ≡ Some request.aid → aid_of tables thing ≡ Some is.asked.aid
    at_asked thing named = named ∙ ap Some is.aid

    pub unknown : ((thing : Found) → aid_of tables thing ≢ Some request.aid) → DeletingFails admitted is.asked DO1
    unknown none = none_found_none_named page tables admitted.at.registry acts.says is.asked.aid (λ thing named. none thing (named ∙ ap Some (sym is.aid)))

    pub known : (thing : Found) → aid_of tables thing ≡ Some request.aid → DeletingFails admitted is.asked DO1 → ⊥
    known (found.Entry slot) named none =
        (let at = found_entry_named page tables admitted.at.registry acts.says slot is.asked.aid (at_asked (found.Entry slot) named) in
        let missing = none.0 in
        let clash = at.2 in
        cc)
    known (found.File slot) named none =
        (let at = found_file_named page tables admitted.at.registry acts.says slot is.asked.aid (at_asked (found.File slot) named) in
        let missing = none.1 in
        let clash = at.2 in
        cc)

    pub fixed : (request.aid ≡ ISSUER) ⊎ (request.aid ≡ FACTORY_FILE) → DeletingFails admitted is.asked DO2
    fixed (inl same) = inl (sym is.aid ∙ same)
    fixed (inr same) = inr (sym is.aid ∙ same)

    pub free : ((request.aid ≡ ISSUER) ⊎ (request.aid ≡ FACTORY_FILE) → ⊥) → DeletingFails admitted is.asked DO2 → ⊥
    free other (inl same) = other (inl (is.aid ∙ same))
    free other (inr same) = other (inr (is.aid ∙ same))

    pub with_related : request.related ≡ true → admitted.command.p2 ≡ 0x80
    with_related related = eqb-true admitted.command.p2 0x80 (sym is.related ∙ related)

    pub without_related : request.related ≡ false → admitted.command.p2 ≡ 0x00
    without_related related = elim is.form.1 [
      | inl zero ↦ zero
      | inr other ↦ absurd (eqb-false admitted.command.p2 0x80 (sym is.related ∙ related) other)
    ]

    -- what is in use
    module _ (live : Live) (represents : RepresentsState page tables live admitted.at) (four : length admitted.at.volatile.channels ≡ CHANNELS) where
      use_alike : (slot : ℕ) (entry : Entry) → thing_in tables.entries.items slot ≡ Some entry → IsInUseIn tables live slot ↔ IsInUse admitted entry.aid
      use_alike slot entry at =
          let said = admitted.at.registry in
          let volatile = admitted.at.volatile in
          let selected = selected_named page tables said acts.says acts.well slot entry at live volatile represents.selected four in
          let loaded = loaded_named page tables said acts.says acts.well slot entry at live volatile represents.load in
          let others = others_named page tables said acts.says acts.well slot entry at in (
            λ used. elim used [
              | inl one ↦ inl (selected.0 one)
              | inr (inl one) ↦ inr (inl (loaded.0 one))
              | inr (inr one) ↦ inr (inr (others.0 one))
            ],
            λ used. elim used [
              | inl one ↦ inl (selected.1 one)
              | inr (inl one) ↦ inr (inl (loaded.1 one))
              | inr (inr one) ↦ inr (inr (others.1 one))
            ],
          )

      pub entry_needed : (slot : ℕ) → aid_of tables (found.Entry slot) ≡ Some request.aid → IsInUseIn tables live slot ↔ DeletingFails admitted is.asked DO4
      entry_needed slot named =
          let said = admitted.at.registry in
          let there = entry_at page tables said acts.says slot is.asked.aid (at_asked (found.Entry slot) named) in
          let alike = use_alike slot there.entry there.at in
          let no_source = entry_no_source page tables said acts.says acts.well slot is.asked.aid (at_asked (found.Entry slot) named) in (
            λ used. inl (is.asked.aid, inl refl, subst (IsInUse admitted) there.aid_is (alike.0 used)),
            λ fails. elim fails [
              | inl (aid, inl same, used) ↦ alike.1 (subst (IsInUse admitted) (same ∙ sym there.aid_is) used)
              | inl (aid, inr comes, used) ↦ absurd (no_source aid comes.1)
              | inr (zero, (aid, comes)) ↦ absurd (no_source aid comes)
            ],
          )

      module _ (slot : ℕ) (named : aid_of tables (found.File slot) ≡ Some request.aid) where
        at_file : aid_of tables (found.File slot) ≡ Some is.asked.aid
        at_file = at_asked (found.File slot) named

        file_unused : (aid : List ℕ) → aid ≡ is.asked.aid → IsInUse admitted aid → ⊥
        file_unused aid same used = by (subst (IsInUse admitted) same used)
          where
            by : IsInUse admitted is.asked.aid → ⊥
            by (inl selected) =
                file_unselected page tables admitted.at.registry acts.says acts.well slot is.asked.aid at_file live admitted.at.volatile represents.selected four
                selected
            by (inr (inl loaded)) =
                file_unloaded page tables admitted.at.registry acts.says acts.well slot is.asked.aid at_file live admitted.at.volatile represents.load loaded
            by (inr (inr others)) = file_alone page tables admitted.at.registry acts.says acts.well slot is.asked.aid at_file others

        pub related_needed : request.related ≡ true → ((other : ℕ) × IsFrom tables slot other × IsInUseIn tables live other) ↔ DeletingFails admitted is.asked DO4
        related_needed related = (
          λ user.
              (let there = from_used tables slot user.0 user.1 in
              inl (
                there.0.aid,
                inr (with_related related, from_named page tables admitted.at.registry acts.says acts.well slot is.asked.aid at_file user.0 there.0 there.1 there.2),
                (use_alike user.0 there.0 there.1).0 user.2,
              )),
          λ fails. elim fails [
            | inl (aid, inl same, used) ↦ absurd (file_unused aid same used)
            | inl (aid, inr comes, used) ↦
                (let there = from_slots page tables admitted.at.registry acts.says acts.well slot is.asked.aid at_file aid comes.1 in
                (there.0, there.4, (use_alike there.0 there.1 there.2).1 (subst (IsInUse admitted) (sym there.3) used)))
            | inr (zero, comes) ↦ absurd (omega (arith, zero, with_related related))
          ],
        )

        pub alone_needed : request.related ≡ false → ((other : ℕ) × IsFrom tables slot other) ↔ DeletingFails admitted is.asked DO4
        alone_needed related = (
          λ source.
              (let there = from_used tables slot source.0 source.1 in
              inr (
                without_related related,
                (there.0.aid, from_named page tables admitted.at.registry acts.says acts.well slot is.asked.aid at_file source.0 there.0 there.1 there.2),
              )),
          λ fails. elim fails [
            | inl (aid, inl same, used) ↦ absurd (file_unused aid same used)
            | inl (aid, inr comes, used) ↦ absurd (omega (arith, comes.0, without_related related))
            | inr (zero, (aid, comes)) ↦
                (let there = from_slots page tables admitted.at.registry acts.says acts.well slot is.asked.aid at_file aid comes in
                (there.0, there.4))
          ],
        )
