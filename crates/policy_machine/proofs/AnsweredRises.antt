-- The receipt number of a domain that confirms a command rises by one, and no other does.
use Rattle.std.proofs.Common.{◌≡◌, ◌≢◌, inl, inr, ℕ, ◌+◌, cond, List, Option, None, Some, refl, ap, sym, subst, ◌∙◌}
use Rattle.std.specs.Option.{option_map}
use Rattle.card_types.proofs.LeastOfList.{found_fits}
use Rattle.card_types.proofs.MappedEntries.{find_mapped}
use Rattle.card_types.proofs.NamedThings.{aid_cases, aid_differs}
use Rattle.card_types.proofs.SameAid.{same_aid_decides}
use Rattle.policy_machine.specs.Prelude.{Admitted, Effect, Entry, IsAnswered, IsConfirmed, IsReceipter, Key, Registry, acting, entry_named, last_receipt, receipt, receipt_generation, same_aid, unique_data, with_receipts}
use Rattle.std.proofs.lemmas.Bool.{cond_both}
use Rattle.policy_machine.proofs.Approved.{one_holder}
use Rattle.policy_machine.proofs.Lawful.{some_same}
use Rattle.policy_machine.proofs.NumbersKept.{KeepsNumbers, receipts_in}

-- Of a command that may have a receipt, with these AIDs: what becomes of the number of a domain.
pub record Rises (admitted : Admitted) (confirms : List (List ℕ) → Type 0) (done : Effect) (domain : List ℕ) (before after : ℕ) : Type 0 where
  pub confirmed : (aids : List (List ℕ)) (key : Key) → confirms aids → IsReceipter admitted.at.registry (acting admitted) domain key
      → (after ≡ before + 1) × (done.body ≡ receipt key.bytes after (unique_data admitted.at.registry) aids)
  pub same : ((aids : List (List ℕ)) (key : Key) → confirms aids → IsReceipter admitted.at.registry (acting admitted) domain key → ⊥) → after ≡ before

abbrev pub AllRise : Admitted → (List (List ℕ) → Type 0) → Effect → Type 0
AllRise admitted confirms done =
    (domain : List ℕ) (before after : ℕ) → last_receipt admitted.at.registry domain ≡ Some before → last_receipt done.state.registry domain ≡ Some after
    → Rises admitted confirms done domain before after

-- what no domain confirms
pub none_rises : (admitted : Admitted) (confirms : List (List ℕ) → Type 0) (done : Effect)
    → ((aids : List (List ℕ)) (domain : List ℕ) (key : Key) → confirms aids → IsReceipter admitted.at.registry (acting admitted) domain key → ⊥)
    → KeepsNumbers admitted.at.registry done.state.registry → AllRise admitted confirms done
none_rises admitted confirms done none kept domain before after was is = record {
  confirmed = λ aids key so receipter. absurd (none aids domain key so receipter);
  same = λ other. kept domain before after was is;
}

-- the number that is set, and that of any other domain
module _ (registry : Registry) (aid : List ℕ) (number : ℕ) where
  abbrev change : Entry → Entry
  change entry = cond (same_aid entry.aid aid) (record entry { receipts = number }) entry

  numbered : (x : List ℕ) → entry_named (with_receipts registry aid number) x ≡ option_map change (entry_named registry x)
  numbered x =
      find_mapped change (λ (e : Entry). same_aid e.aid x)
      (λ e. ap (λ (a : List ℕ). same_aid a x) (cond_both (same_aid e.aid aid) (record e { receipts = number }) e (λ (a : Entry). a.aid ≡ e.aid) (λ _. refl) (λ _. refl)))
      registry.entries

  -- the AID of an entry that is found
  found_aid : (x : List ℕ) (entry : Entry) → entry_named registry x ≡ Some entry → entry.aid ≡ x
  found_aid x entry named = (same_aid_decides entry.aid x).0 (found_fits (λ (e : Entry). same_aid e.aid x) registry.entries entry named).1

  number_set : (n : ℕ) → last_receipt (with_receipts registry aid number) aid ≡ Some n → n ≡ number
  number_set n is = by (entry_named registry aid) refl (sym (ap receipts_in (numbered aid)) ∙ is)
    where
      by : (o : Option Entry) → entry_named registry aid ≡ o → receipts_in (option_map change o) ≡ Some n → n ≡ number
      by None named on = cc
      by (Some entry) named on =
          (let set = ap (λ b. (cond b (record entry { receipts = number }) entry).receipts) ((same_aid_decides entry.aid aid).1 (found_aid aid entry named)) in
          sym (some_same (change entry).receipts n on) ∙ set)

  number_stays : (x : List ℕ) → x ≢ aid → last_receipt (with_receipts registry aid number) x ≡ last_receipt registry x
  number_stays x other = ap receipts_in (numbered x) ∙ by (entry_named registry x) refl
    where
      by : (o : Option Entry) → entry_named registry x ≡ o → receipts_in (option_map change o) ≡ receipts_in o
      by None named = refl
      by (Some entry) named =
          ap (λ b. Some ((cond b (record entry { receipts = number }) entry).receipts)) (aid_differs entry.aid aid (λ same. other (sym (found_aid x entry named) ∙ same)))

module _ (delegated : Type 0) (admitted : Admitted) (about : List (List ℕ)) (changed : Registry) (reply : List ℕ) (done : Effect)
    (confirms : List (List ℕ) → Type 0) (told : (aids : List (List ℕ)) → confirms aids → delegated × (aids ≡ about)) (tells : delegated → confirms about)
    (kept : KeepsNumbers admitted.at.registry changed) where
  confirmed_rises : delegated → IsConfirmed admitted about changed done → AllRise admitted confirms done
  confirmed_rises so by domain before after was is = elim (aid_cases domain by.receipter) [
    | inl same ↦ record {
      confirmed = λ aids key these receipter. (let k = key_is same key receipter in let a = (told aids these).1 in (
        rises same,
        by.body ∙ (λ i. receipt ((sym k i).bytes) (sym (number same) i) (unique_data admitted.at.registry) (sym a i)),
      ));
      same = λ none. absurd (none about by.key (tells so) (subst (λ (x : List ℕ). IsReceipter admitted.at.registry (acting admitted) x by.key) (sym same) by.is_receipter));
    }
    | inr other ↦ record {
      confirmed = λ aids key these receipter. absurd (other (one_holder admitted.at.registry receipt_generation 0x71 (acting admitted) domain by.receipter key by.key receipter by.is_receipter).0);
      same = λ none. kept domain before after was (sym (number_stays changed by.receipter (by.entry.receipts + 1) domain other)
          ∙ subst (λ (r : Registry). last_receipt r domain ≡ Some after) by.registry is);
    }
  ]
    where
      number : domain ≡ by.receipter → after ≡ by.entry.receipts + 1
      number same =
          number_set changed by.receipter (by.entry.receipts + 1) after
          (subst (λ (x : List ℕ). last_receipt (with_receipts changed by.receipter (by.entry.receipts + 1)) x ≡ Some after) same
          (subst (λ (r : Registry). last_receipt r domain ≡ Some after) by.registry is))

      before_is : domain ≡ by.receipter → by.entry.receipts ≡ before
      before_is same =
          some_same by.entry.receipts before
          (sym (ap receipts_in by.named) ∙ subst (λ (x : List ℕ). last_receipt admitted.at.registry x ≡ Some before) same was)

      rises : domain ≡ by.receipter → after ≡ before + 1
      rises same = number same ∙ ap (λ n. n + 1) (before_is same)

      key_is : domain ≡ by.receipter → (key : Key) → IsReceipter admitted.at.registry (acting admitted) domain key → key ≡ by.key
      key_is same key receipter =
          (one_holder admitted.at.registry receipt_generation 0x71 (acting admitted) domain by.receipter key by.key receipter by.is_receipter).1

  pub answered_rises : IsAnswered delegated admitted about changed reply done → AllRise admitted confirms done
  answered_rises (inl (so, confirmed)) = confirmed_rises so confirmed
  answered_rises (inr (none, unconfirmed)) =
      none_rises admitted confirms done
      (λ aids domain key these receipter. none (told aids these).0 domain receipter.above.above receipter.above.fitting)
      (subst (λ (r : Registry). KeepsNumbers admitted.at.registry r) (sym unconfirmed.registry) kept)
