-- The laws of INSTALL [for install].
use Rattle.std.proofs.Common.{◌≡◌, ◌≢◌, inl, inr, ℕ, List, ◌∷◌, Bool, true, false, ◌&&◌, Option, None, Some, refl, sym, ap, subst, ◌∙◌, arith, if◌then◌else◌}
use Rattle.std.specs.Prelude.{IsSome, MatchOption, ◌==◌}
use Rattle.std.proofs.lemmas.Bool.{cases_Bool}
use Rattle.std.proofs.lemmas.Bool.Decides.{eqb_tells}
use Rattle.std.proofs.lemmas.List.Sorted.{IsPermutation-sym, IsPermutation-trans}
use Rattle.std.proofs.lemmas.Cmp.{nat_list_cmp_total, on_total}
use Rattle.std.specs.Int.RustNames.{bit_and}
use Rattle.card_types.proofs.AddedThing.{entry_added_keeps}
use Rattle.card_types.proofs.ChangeExists.{one_order}
use Rattle.card_types.proofs.NamedThings.{beside_found, still_found}
use Rattle.card_types.proofs.SameAid.{same_aid_decides}
use Rattle.policy_machine.specs.Prelude.{Admitted, AsksToInstall, Entry, InstallAsked, IsDomainNamed, IsEntryAdded, IsFirst, IsOfCard, IsProperEntry, LoadSession, MayAddEntry, MayBeMade, Registry, acting, aid_order, authorized_management, bits_of, command_form, delegated_management, entry_made, entry_named, file_named, has, has_domain_privilege, has_life, is_domain, managed_install, refused_privileges, same_aid}
use Rattle.card_types.specs.declared.factory.TheConstants.{FACTORY_FILE, FACTORY_MODULE}
use Rattle.card_types.specs.declared.life.Life.TheVariants.{Installed, Selectable}
use Rattle.policy_machine.proofs.FitsKept.{KeepsHeld, fits_kept, same_files, some_there}
use Rattle.policy_machine.specs.declared.install_application.RuleII.TheVariants.{II2, II4, II5, II7}
use Rattle.policy_machine.proofs.InstallApplicationAsking.{install_judgeable}
use Rattle.policy_machine.proofs.ManagedJudging.{OwnPass, own_pass}
use Rattle.policy_machine.proofs.ManagedLawful.{IsManagedLawful, KeepsCard, LeavesOne, receipt_judged}
use Rattle.policy_machine.proofs.Lawful.{none_of, sound_of_card}

-- what can't be otherwise is so
bool_stable : (a b : Bool) → ((a ≡ b → ⊥) → ⊥) → a ≡ b
bool_stable true true other = refl
bool_stable false false other = refl
bool_stable true false other = absurd (other (λ is. cc))
bool_stable false true other = absurd (other (λ is. cc))

number_stable : (a b : ℕ) → ((a ≡ b → ⊥) → ⊥) → a ≡ b
number_stable a b other = elim (eqb_tells a b) [
  | inl same ↦ same.1
  | inr differs ↦ absurd (other differs.1)
]

implied_stable : (a b : Bool) → (((a ≡ true → b ≡ true) → ⊥) → ⊥) → a ≡ true → b ≡ true
implied_stable a b other is = bool_stable b true (λ differs. other (λ so. differs (so is)))

made_stable : (entry : Entry) → ((MayBeMade entry → ⊥) → ⊥) → MayBeMade entry
made_stable entry other = record {
  kind = bool_stable (is_domain entry) (same_aid entry.file FACTORY_FILE) (λ differs. other (λ may. differs may.kind));
  domain_privileges = implied_stable (has_domain_privilege entry) (is_domain entry) (λ differs. other (λ may. differs may.domain_privileges));
  one_management = bool_stable (has authorized_management entry.privileges && has delegated_management entry.privileges) false (λ differs. other (λ may. differs may.one_management));
  none_refused = number_stable (bit_and (bits_of entry.privileges) refused_privileges) 0 (λ differs. other (λ may. differs may.none_refused));
}

some_of : {A : Type 0} (o : Option A) → (o ≡ None → ⊥) → IsSome o
some_of None missing = absurd (missing refl)
some_of (Some x) missing = refl

aid_stable : (a b : List ℕ) → (a ≢ b → ⊥) → a ≡ b
aid_stable a b other = elim (cases_Bool (same_aid a b)) [
  | inl same ↦ (same_aid_decides a b).0 same
  | inr differs ↦ absurd (other (λ is. (let clash = sym ((same_aid_decides a b).1 is) ∙ differs in cc)))
]

module _ (admitted : Admitted) (asked : InstallAsked) (own : OwnPass managed_install.judged admitted asked) where
  abbrev made : Entry
  made = entry_made admitted asked

  life_fits : (b domain : Bool) → has_life domain (if b then Selectable else Installed) ≡ true
  life_fits true domain = refl
  life_fits false domain = refl

  is_made : MayBeMade made
  is_made = made_stable made (own II5 (4, omega arith, refl))

  is_proper : AsksToInstall admitted.command.body asked → IsProperEntry made
  is_proper asks = record {
    aid = asks.aid;
    module_ = asks.module_;
    kind = is_made.kind;
    domain_module = λ is.
        aid_stable asked.given.second FACTORY_MODULE (λ other.
        own II2 (1, omega arith, refl) (inr ((same_aid_decides asked.given.first FACTORY_FILE).0 (sym is_made.kind ∙ is), other)));
    life = life_fits (admitted.command.p1 == 0x0C) (is_domain made);
    named_privileges = asks.privileges.named;
    domain_privileges = is_made.domain_privileges;
    one_management = is_made.one_management;
    receipts = omega arith;
  }

  -- it may be added
  pub may_be_added : AsksToInstall admitted.command.body asked → IsDomainNamed admitted.at.registry (acting admitted) → MayAddEntry admitted.at.registry made
  may_be_added asks domain = record {
    free = record {
      no_entry = none_of (entry_named admitted.at.registry asked.given.third) (λ there. own II4 (3, omega arith, refl) (inl there));
      no_file = none_of (file_named admitted.at.registry asked.given.third) (λ there. own II4 (3, omega arith, refl) (inr (inl there)));
    };
    room = (let full = own II7 (6, omega arith, refl) in omega (arith, full));
    proper = is_proper asks;
    domain = domain;
    loaded = some_of (file_named admitted.at.registry asked.given.first) (λ none. own II2 (1, omega arith, refl) (inl none));
  }

  module _ (of : IsOfCard admitted.at.registry) (asks : AsksToInstall admitted.command.body asked) (domain : IsDomainNamed admitted.at.registry (acting admitted))
      (changed : Registry) (added : IsEntryAdded made admitted.at.registry changed) where
    pub added_keeps : KeepsHeld admitted.at.registry changed admitted.at.volatile
    added_keeps =
        let free = (may_be_added asks domain).free.no_entry in
        let same = added.same in
        record {
          entries = λ aid held some.
              some_there (λ e. Unit {0}) (entry_named changed aid)
              (subst (λ (r : Registry). MatchOption (entry_named r aid) ⊥ (λ e. Unit {0})) (sym same)
              (still_found (λ (e : Entry). e.aid) made admitted.at.registry.entries changed.entries of.ascending.entries added.entries free (λ e. Unit {0}) aid
              (matched_some (entry_named admitted.at.registry aid) some)));
          domains = λ aid held is.
              subst (λ (r : Registry). IsDomainNamed r aid) (sym same)
              (still_found (λ (e : Entry). e.aid) made admitted.at.registry.entries changed.entries of.ascending.entries added.entries free (λ e. is_domain e ≡ true) aid is);
          room = λ load at. same_files admitted.at.registry changed load.aid (ap (λ (r : Registry). r.files) same) (load_free load at);
        }
      where
        matched_some : (o : Option Entry) → IsSome o → MatchOption o ⊥ (λ e. Unit {0})
        matched_some None some = cc
        matched_some (Some e) some = tt

        -- the AID of the load session is another
        load_free : (load : LoadSession) → admitted.at.volatile.load ≡ Some load → entry_named admitted.at.registry load.aid ≡ None → entry_named changed load.aid ≡ None
        load_free load at free =
            subst (λ (r : Registry). entry_named r load.aid ≡ None) (sym added.same)
            (beside_found (λ (e : Entry). e.aid) made admitted.at.registry.entries changed.entries of.ascending.entries added.entries load.aid
            (λ same. own II4 (3, omega arith, refl) (inr (inr (subst (λ (o : Option LoadSession). MatchOption o ⊥ (λ l. l.aid ≡ asked.given.third)) (sym at) (sym same))))) ∙ free)

-- the registry with the entry is one that a card may have
pub made_of_card : (admitted : Admitted) (asked : InstallAsked) → AsksToInstall admitted.command.body asked → IsOfCard admitted.at.registry
    → IsDomainNamed admitted.at.registry (acting admitted) → IsFirst ((command_form managed_install).fails admitted) (command_form managed_install).rules None → (changed : Registry)
    → IsEntryAdded (entry_made admitted asked) admitted.at.registry changed → IsOfCard changed
made_of_card admitted asked asks of domain first changed added =
    entry_added_keeps (entry_made admitted asked) admitted.at.registry changed of
    (may_be_added admitted asked (own_pass managed_install.judged install_judgeable admitted asked asks first) asks domain) added

-- it leaves a card sound
install_keeps : KeepsCard managed_install
install_keeps admitted asked changed passed added =
    let registry = admitted.at.registry in
    let of = sound_of_card passed.sound in
    record {
      of = entry_added_keeps (entry_made admitted asked) registry changed of (may_be_added admitted asked passed.own passed.asks passed.domain) added;
      fits = fits_kept registry changed admitted.at.volatile (added_keeps admitted asked passed.own of passed.asks passed.domain changed added) passed.sound.fits;
    }

-- there is one registry with the entry
install_one : LeavesOne managed_install
install_one admitted asked a b asks one other =
    let made = entry_made admitted asked ∷ admitted.at.registry.entries in
    let entries : a.entries ≡ b.entries =
    one_order (λ (x y : Entry). aid_order x.aid y.aid) (on_total (λ (e : Entry). e.aid) nat_list_cmp_total) a.entries b.entries one.entries.ascending other.entries.ascending
    (IsPermutation-trans a.entries made b.entries (IsPermutation-sym made a.entries one.entries.same) other.entries.same) in
    one.same ∙ ap (λ (es : List Entry). record admitted.at.registry { entries = es }) entries ∙ sym other.same

pub managed_install_lawful : IsManagedLawful managed_install
managed_install_lawful = record {
  judgeable = install_judgeable;
  receipted = λ admitted delegated. receipt_judged;
  keeps = install_keeps;
  one = install_one;
}
