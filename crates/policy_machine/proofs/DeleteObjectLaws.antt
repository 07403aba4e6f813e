-- The laws of DELETE of an object.
use Rattle.std.proofs.Common.{◌≡◌, ◌≢◌, inl, inr, ℕ, Bool, true, List, Option, None, Some, length, refl, sym, subst, ◌∙◌, arith}
use Rattle.std.specs.Prelude.{Contains, IsSome, MatchOption, not}
use Rattle.std.proofs.lemmas.Bool.{not-true, not_from_false}
use Rattle.std.proofs.lemmas.List.Filters.{sum_by-filter_both}
use Rattle.card_types.proofs.ApplicationsRemoved.{applications_removed_keep}
use Rattle.card_types.proofs.Members.{filtered}
use Rattle.card_types.proofs.NamedThings.{aid_cases, aid_differs, found_kept, rest_found, rest_shorter, rest_unfound, unfound_kept}
use Rattle.card_types.proofs.RemovedThing.{entry_removed_keeps, file_removed_keeps}
use Rattle.card_types.proofs.SameAid.{same_aid_decides}
use Rattle.policy_machine.specs.Prelude.{Admitted, AsksToDelete, ComesFrom, DeleteParameters, DeletingFails, DeletionAsked, Entry, IsFirst, IsInUse, IsJudgeable, IsOfCard, LoadFile, Registry, command_form, entry_named, is_domain, managed_delete_object, pages_of, same_aid, without_applications, without_entry, without_thing}
use Rattle.card_types.specs.declared.factory.TheConstants.{FACTORY_FILE, ISSUER}
use Rattle.policy_machine.specs.declared.delete_object.RuleDO.TheVariants.{DO2, DO4}
use Rattle.policy_machine.proofs.DeleteObjectAsking.{one_deletion}
use Rattle.policy_machine.proofs.FitsKept.{IsHeld, KeepsHeld, fits_kept, some_there}
use Rattle.policy_machine.proofs.Lawful.{sound_of_card}
use Rattle.policy_machine.proofs.ManagedJudging.{own_pass, delegation_asked}
use Rattle.policy_machine.proofs.ManagedLawful.{IsManagedLawful, leaves_one, receipt_judged}

module _ (admitted : Admitted) (asked : DeletionAsked) (parameters : DeleteParameters admitted.command.p1 admitted.command.p2)
    (removable : DeletingFails admitted asked DO2 → ⊥) (unused_so : DeletingFails admitted asked DO4 → ⊥) where
  abbrev before : Registry
  before = admitted.at.registry

  not_issuer : asked.aid ≢ ISSUER
  not_issuer same = removable (inl same)

  not_factory : asked.aid ≢ FACTORY_FILE
  not_factory same = removable (inr same)

  in_use : (aid : List ℕ) → IsHeld admitted.at.volatile aid → IsInUse admitted aid
  in_use aid (inl selected) = inl selected
  in_use aid (inr loaded) = inr (inl loaded)

  -- the thing is not in use, and what is in use does not come from it
  unused : IsInUse admitted asked.aid → ⊥
  unused used = unused_so (inl (asked.aid, inl refl, used))

  none_comes : (aid : List ℕ) → IsHeld admitted.at.volatile aid → ComesFrom before asked.aid aid → ⊥
  none_comes aid here comes = elim parameters.1 [
    | inl zero ↦ unused_so (inr (zero, (aid, comes)))
    | inr related ↦ unused_so (inl (aid, inr (related, comes), in_use aid here))
  ]

  abbrev applications_gone : Registry
  applications_gone = without_applications before asked.aid

  abbrev entry_gone : Registry
  entry_gone = without_entry applications_gone asked.aid

  abbrev keep_source : Entry → Bool
  keep_source entry = not (same_aid entry.file asked.aid)

  -- it may be removed
  no_others : (entry : Entry) → Contains applications_gone.entries entry → entry.domain ≡ asked.aid → entry.aid ≡ asked.aid
  no_others entry there within = elim (aid_cases entry.aid asked.aid) [
    | inl same ↦ same
    | inr other ↦ absurd (unused (inr (inr (inl (entry, (filtered keep_source before.entries entry there).0, within, other)))))
  ]

  no_source : (entry : Entry) → Contains entry_gone.entries entry → entry.file ≢ asked.aid
  no_source entry there same =
      let first = filtered (λ (e : Entry). not (same_aid e.aid asked.aid)) applications_gone.entries entry there in
      let second = filtered keep_source before.entries entry first.0 in
      let clash = sym ((same_aid_decides entry.file asked.aid).1 same) ∙ not-true (same_aid entry.file asked.aid) second.1 in
      cc

  pub removed_of_card : IsOfCard before → IsOfCard (without_thing before asked.aid)
  removed_of_card of =
      file_removed_keeps entry_gone asked.aid
      (entry_removed_keeps applications_gone asked.aid (applications_removed_keep before asked.aid of not_factory)
      (record { other = not_issuer; no_entry = no_others; no_file = λ file there within. unused (inr (inr (inr (file, there, within)))) }))
      (record { other = not_factory; no_entry = no_source })

  -- what the card holds while it has power is there still
  still : (aid : List ℕ) → IsSome (entry_named before aid) → IsHeld admitted.at.volatile aid
      → entry_named (without_thing before asked.aid) aid ≡ entry_named before aid
  still aid some here =
      rest_found (λ (e : Entry). e.aid) asked.aid aid (λ same. unused (in_use asked.aid (subst (IsHeld admitted.at.volatile) same here))) applications_gone.entries
      ∙ by (entry_named before aid) refl some
    where
      by : (o : Option Entry) → entry_named before aid ≡ o → IsSome o → entry_named applications_gone aid ≡ entry_named before aid
      by None at some = cc
      by (Some entry) at some =
          (let stays = not_from_false (same_aid entry.file asked.aid) (aid_differs entry.file asked.aid (λ from.
          none_comes aid here (subst (λ (o : Option Entry). MatchOption o ⊥ (λ e. e.file ≡ asked.aid)) (sym at) from))) in
          found_kept (λ (e : Entry). e.aid) keep_source (λ (e : Entry). same_aid e.aid aid) entry before.entries at stays ∙ sym at)

  pub no_entry : (aid : List ℕ) → entry_named before aid ≡ None → entry_named (without_thing before asked.aid) aid ≡ None
  no_entry aid none =
      rest_unfound (λ (e : Entry). e.aid) asked.aid aid applications_gone.entries
      (unfound_kept (λ (e : Entry). e.aid) keep_source (λ (e : Entry). same_aid e.aid aid) before.entries none)

  pub keeps_held : KeepsHeld before (without_thing before asked.aid) admitted.at.volatile
  keeps_held =
      let keep : LoadFile → Bool = λ (file : LoadFile). not (same_aid file.aid asked.aid) in
      record {
        entries = λ aid here some. subst IsSome (sym (still aid some here)) some;
        domains = λ aid here is.
            (let some = some_there (λ entry. is_domain entry ≡ true) (entry_named before aid) is in
            subst (λ (o : Option Entry). MatchOption o ⊥ (λ entry. is_domain entry ≡ true)) (sym (still aid some here)) is);
        room = λ load at. record {
          no_entry = no_entry load.aid;
          no_file = λ none. rest_unfound (λ (f : LoadFile). f.aid) asked.aid load.aid before.files none;
          fewer = rest_shorter (λ (f : LoadFile). f.aid) asked.aid before.files;
          smaller = omega (arith, sum_by-filter_both keep (λ (f : LoadFile). not (keep f)) (λ _. refl) (λ (f : LoadFile). pages_of (length f.bytes)) before.files);
        };
      }

pub deletion_judgeable : IsJudgeable managed_delete_object.judged
deletion_judgeable = record { one_asked = λ p1 p2 body a b one other. one_deletion a b body one other; own = λ rule. tt; one_rule = λ a b same. cc; approving = delegation_asked }

-- the registry without what is to go is one that a card may have
pub deleted_of_card : (admitted : Admitted) (asked : DeletionAsked) → AsksToDelete admitted.command.body asked
    → DeleteParameters admitted.command.p1 admitted.command.p2
    → IsOfCard admitted.at.registry → IsFirst ((command_form managed_delete_object).fails admitted) (command_form managed_delete_object).rules None → IsOfCard (without_thing admitted.at.registry asked.aid)
deleted_of_card admitted asked asks parameters of first =
    let own = own_pass managed_delete_object.judged deletion_judgeable admitted asked asks first in
    removed_of_card admitted asked parameters (own DO2 (1, omega arith, refl)) (own DO4 (3, omega arith, refl)) of

pub managed_delete_object_lawful : IsManagedLawful managed_delete_object
managed_delete_object_lawful =
    leaves_one managed_delete_object.judged (λ admitted asked. without_thing admitted.at.registry asked.aid) managed_delete_object.reply deletion_judgeable
    (λ admitted delegated. receipt_judged)
    (λ admitted asked passed.
    (let removable = passed.own DO2 (1, omega arith, refl) in
    let unused = passed.own DO4 (3, omega arith, refl) in
    record {
      of = removed_of_card admitted asked passed.takes removable unused (sound_of_card passed.sound);
      fits = fits_kept admitted.at.registry (without_thing admitted.at.registry asked.aid) admitted.at.volatile
          (keeps_held admitted asked passed.takes removable unused) passed.sound.fits;
    }))
