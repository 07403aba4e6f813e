-- The security domain that a command acts for, in its slot and by its name.
use Rattle.std.proofs.Common.{◌≡◌, ◌≢◌, ◌⊎◌, ℕ, true, false, List, Option, Some, ap, sym, subst, ◌∙◌}
use Rattle.std.specs.Prelude.{MatchOption}
use Rattle.card_types.proofs.Domains.{domain_aid_is}
use Rattle.card_types.proofs.EntryNames.{entry_in_slot}
use Rattle.card_types.specs.Registry as registry
use Rattle.policy_slots.specs.Prelude.{ActsIn, Admitted, ManagementFails, acting, entry_of, is_card_locked}
use Rattle.card_types.specs.declared.factory.TheConstants.{ISSUER}
use Rattle.card_types.specs.declared.tables.Tables.{Tables}
use Rattle.policy_machine.specs.declared.management.RuleM.TheVariants.{M1, M2, M3}

module _ (page : ℕ → List ℕ) (tables : Tables) (domain : ℕ) (admitted : Admitted) (acts : ActsIn page tables domain admitted) where
  pub acting_aid : acting admitted ≡ acts.entry.aid
  acting_aid = acts.on ∙ domain_aid_is tables.entries.items domain acts.entry acts.at

  acting_named : registry.entry_named admitted.at.registry (acting admitted) ≡ Some (entry_of tables.entries.items tables.files.items acts.entry)
  acting_named =
      ap (registry.entry_named admitted.at.registry) acting_aid ∙ entry_in_slot page tables admitted.at.registry acts.says domain acts.entry acts.at

  abbrev IsLocked : Option registry.Entry → Type 0
  IsLocked named = MatchOption named ⊥ (λ entry. entry.life.locked ≡ true)

  -- the domain is locked where its entry is
  pub locked_fails : acts.entry.life.locked ≡ true → ManagementFails admitted M2
  locked_fails locked = subst IsLocked (sym acting_named) locked

  pub unlocked_passes : acts.entry.life.locked ≡ false → ManagementFails admitted M2 → ⊥
  unlocked_passes unlocked fails = (let locked = subst IsLocked acting_named fails in let clash = sym locked ∙ unlocked in cc)

  -- the card is locked where the tables say so
  pub card_passes : is_card_locked tables.life ≡ false → ManagementFails admitted M1 → ⊥
  card_passes unlocked fails =
      (let locked = subst (λ life. is_card_locked life ≡ true) (sym acts.says.life) fails in let clash = sym locked ∙ unlocked in cc)

  -- on a locked card the Issuer Security Domain alone sets a life cycle state, the card's own
  pub closed_fails : is_card_locked tables.life ≡ true → (admitted.command.p1 ≢ 0x80) ⊎ (acting admitted ≢ ISSUER) → ManagementFails admitted M3
  closed_fails locked other = (subst (λ life. is_card_locked life ≡ true) acts.says.life locked, other)
