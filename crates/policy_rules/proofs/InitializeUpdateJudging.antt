-- The rules of INITIALIZE UPDATE after its form, by slots and by names.
use Rattle.std.proofs.Common.{◌≡◌, ◌≢◌, ℕ, Bool, true, false, ◌&&◌, List, [], ◌∷◌, Option, None, Some, refl, sym, ap, subst, ◌∙◌, inl, inr, arith}
use Rattle.std.specs.Prelude.{MatchOption, not}
use Rattle.std.proofs.lemmas.List.Elements.{All-contains}
use Rattle.card_types.proofs.Domains.{domain_aid_is}
use Rattle.card_types.proofs.EntryNames.{entry_in_slot}
use Rattle.card_types.proofs.KeyNames.{counters_shown}
use Rattle.card_types.proofs.SameAid.{same_aid_decides}
use Rattle.policy_rules.specs.Prelude.{Admitted, AsksForSet, HasNextCounter, InitializeUpdateFails, IsFirst, IsInOrder, IsWellCounter, Represents, UsesSet, Well, acting, counter_of, domain_aid, entry_of, is_card_locked, keeps_counter, offer_rules, same_aid, set_counter, thing_in}
use Rattle.card_types.specs.Registry as registry
use Rattle.card_types.specs.declared.factory.TheConstants.{ISSUER}
use Rattle.card_types.specs.declared.limits.TheConstants.{COUNTER_LIMIT}
use Rattle.card_types.specs.declared.tables.Entry.{Entry}
use Rattle.card_types.specs.declared.tables.KeyRec.{KeyRec}
use Rattle.card_types.specs.declared.tables.Tables.{Tables}
use Rattle.policy_machine.specs.declared.initialize_update.RuleIU.TheVariants.{IU1, IU2, IU3}
use Rattle.policy_machine.specs.declared.management.RuleM.TheVariants.{M2}
use Rattle.policy_machine.specs.declared.rule.Rule.{Rule}
use Rattle.policy_machine.specs.declared.rule.Rule.TheVariants.{M, IU}
use Rattle.policy_slots.proofs.SessionSets.{owns_once}

both_true : (a b : Bool) → (a && b) ≡ true → (a ≡ true) × (b ≡ true)
both_true true b is = (refl, is)
both_true false b is = cc

not_true : (a : Bool) → not a ≡ true → a ≡ false
not_true true is = cc
not_true false is = refl

some_is : {A : Type 0} (a b : A) → Some a ≡ Some b → a ≡ b
some_is a b same = cc

-- a counter that a slot holds is within its limit
pub has_next : (tables : Tables) (order : IsInOrder tables) (slot : ℕ) (key : KeyRec) → thing_in tables.keys.items slot ≡ Some key
    → keeps_counter key ≡ true → key.counter ≢ COUNTER_LIMIT → HasNextCounter tables.keys.items slot
has_next tables order slot key here keeps other =
    let among = (counters_shown order.page tables order.said order.says).there slot key here keeps in
    let bound = (All-contains (IsWellCounter order.said) order.said.counters (counter_of tables.entries.items key) order.well.counters among).number in
    rw here (keeps, omega (arith, bound, other))

module _ (page : ℕ → List ℕ) (tables : Tables) (admitted : Admitted) (says : Represents page tables admitted.at.registry) (well : Well admitted.at.registry)
    (domain : ℕ) (entry : Entry) (at : thing_in tables.entries.items domain ≡ Some entry) (on : acting admitted ≡ domain_aid tables.entries.items domain)
    (version : ℕ) (asked : version ≡ admitted.command.p1) where
  named : registry.entry_named admitted.at.registry (acting admitted) ≡ Some (entry_of tables.entries.items tables.files.items entry)
  named =
      ap (registry.entry_named admitted.at.registry) (on ∙ domain_aid_is tables.entries.items domain entry at)
      ∙ entry_in_slot page tables admitted.at.registry says domain entry at

  -- the domain is locked where its entry is
  lock_is : MatchOption (registry.entry_named admitted.at.registry (acting admitted)) ⊥ (λ e. e.life.locked ≡ true) → entry.life.locked ≡ true
  lock_is fails = subst (λ (o : Option registry.Entry). MatchOption o ⊥ (λ e. e.life.locked ≡ true)) named fails

  pub locked_first : entry.life.locked ≡ true → IsFirst (InitializeUpdateFails admitted) offer_rules (Some (M M2))
  locked_first locked =
      inl (subst (λ (o : Option registry.Entry). MatchOption o ⊥ (λ e. e.life.locked ≡ true)) (sym named) locked, refl)

  module _ (unlocked : entry.life.locked ≡ false) where
    passes_lock : (found : Option Rule) → IsFirst (InitializeUpdateFails admitted) (IU IU1 ∷ IU IU2 ∷ IU IU3 ∷ []) found
        → IsFirst (InitializeUpdateFails admitted) offer_rules found
    passes_lock found rest = inr ((λ fails. (let locked = lock_is fails in let clash = sym locked ∙ unlocked in cc)), rest)

    other_than_issuer : (is_card_locked tables.life && not (same_aid entry.aid ISSUER)) ≡ true
        → (is_card_locked admitted.at.registry.life ≡ true) × (acting admitted ≢ ISSUER)
    other_than_issuer shut =
        let both = both_true (is_card_locked tables.life) (not (same_aid entry.aid ISSUER)) shut in (
          subst (λ life. is_card_locked life ≡ true) says.life both.0,
          λ is. (let same = (same_aid_decides entry.aid ISSUER).1 (sym (on ∙ domain_aid_is tables.entries.items domain entry at) ∙ is) in
              let clash = sym same ∙ not_true (same_aid entry.aid ISSUER) both.1 in cc),
        )

    pub shut_first : (is_card_locked tables.life && not (same_aid entry.aid ISSUER)) ≡ true
        → IsFirst (InitializeUpdateFails admitted) offer_rules (Some (IU IU1))
    shut_first shut = passes_lock (Some (IU IU1)) (inl (other_than_issuer shut, refl))

    module _ (opened : (is_card_locked tables.life && not (same_aid entry.aid ISSUER)) ≡ false) where
      not_shut : (is_card_locked admitted.at.registry.life ≡ true) × (acting admitted ≢ ISSUER) → ⊥
      not_shut fails =
          let locked : is_card_locked tables.life ≡ true = subst (λ life. is_card_locked life ≡ true) (sym says.life) fails.0 in
          by (is_card_locked tables.life) (same_aid entry.aid ISSUER) refl locked opened
        where
          by : (a b : Bool) → same_aid entry.aid ISSUER ≡ b → a ≡ true → (a && not b) ≡ false → ⊥
          by true true same locked opens =
              fails.1 (on ∙ domain_aid_is tables.entries.items domain entry at ∙ (same_aid_decides entry.aid ISSUER).0 same)
          by true false same locked opens = cc
          by false b same locked opens = cc

      passes_shut : (found : Option Rule) → IsFirst (InitializeUpdateFails admitted) (IU IU2 ∷ IU IU3 ∷ []) found
          → IsFirst (InitializeUpdateFails admitted) offer_rules found
      passes_shut found rest = passes_lock found (inr (not_shut, rest))

      as_asked : (owner : List ℕ) (counter : registry.Counter) → AsksForSet admitted owner counter
          → UsesSet admitted.at.registry (domain_aid tables.entries.items domain) version owner counter
      as_asked owner counter uses =
          subst (λ (n : ℕ). UsesSet admitted.at.registry (domain_aid tables.entries.items domain) n owner counter) (sym asked)
          (subst (λ (aid : List ℕ). UsesSet admitted.at.registry aid admitted.command.p1 owner counter) on uses)

      asks : (owner : List ℕ) (counter : registry.Counter)
          → UsesSet admitted.at.registry (domain_aid tables.entries.items domain) version owner counter → AsksForSet admitted owner counter
      asks owner counter uses =
          subst (λ (n : ℕ). UsesSet admitted.at.registry (acting admitted) n owner counter) asked
          (subst (λ (aid : List ℕ). UsesSet admitted.at.registry aid version owner counter) (sym on) uses)

      pub unset_first : ((owner : List ℕ) (counter : registry.Counter)
          → UsesSet admitted.at.registry (domain_aid tables.entries.items domain) version owner counter → ⊥)
          → IsFirst (InitializeUpdateFails admitted) offer_rules (Some (IU IU2))
      unset_first none =
          passes_shut (Some (IU IU2)) (inl ((λ owner counter uses. none owner counter (as_asked owner counter uses)), refl))

      module _ (owner : List ℕ) (counter : registry.Counter)
          (uses : UsesSet admitted.at.registry (domain_aid tables.entries.items domain) version owner counter) where
        passes_unset : (found : Option Rule) → IsFirst (InitializeUpdateFails admitted) (IU IU3 ∷ []) found
            → IsFirst (InitializeUpdateFails admitted) offer_rules found
        passes_unset found rest = passes_shut found (inr ((λ fails. fails owner counter (asks owner counter uses)), rest))

        pub spent_first : counter.number ≡ COUNTER_LIMIT → IsFirst (InitializeUpdateFails admitted) offer_rules (Some (IU IU3))
        spent_first spent = passes_unset (Some (IU IU3)) (inl ((owner, counter, asks owner counter uses, spent), refl))

        one_counter : (other : List ℕ) (another : registry.Counter)
            → UsesSet admitted.at.registry (domain_aid tables.entries.items domain) version other another → counter ≡ another
        one_counter other another used =
            let owners = owns_once admitted.at.registry (domain_aid tables.entries.items domain) owner other uses.0 used.0 in
            some_is counter another (sym uses.1 ∙ ap (λ o. set_counter admitted.at.registry o version) owners ∙ used.1)

        pub none_first : counter.number ≢ COUNTER_LIMIT → IsFirst (InitializeUpdateFails admitted) offer_rules None
        none_first left = passes_unset None (inr (
          (λ fails. (let is = fails.3 in
              left (ap (λ (c : registry.Counter). c.number) (one_counter fails.0 fails.1 (as_asked fails.0 fails.1 fails.2)) ∙ is))),
          refl,
        ))
