-- Receipt numbers after a change of a registry.
use Rattle.std.proofs.Common.{◌≡◌, inl, inr, ℕ, Bool, List, Option, None, Some, cond, refl, ap, sym, subst, ◌∙◌}
use Rattle.std.proofs.lemmas.Bool.{cond_both}
use Rattle.std.specs.Prelude.{find, map}
use Rattle.std.specs.Option.{option_map}
use Rattle.card_types.proofs.MappedEntries.{find_mapped}
use Rattle.card_types.proofs.NamedThings.{aid_cases, beside_found}
use Rattle.policy_machine.specs.Prelude.{Entry, IsEntryAdded, IsFreeAid, IsOfCard, Registry, entry_named, last_receipt, same_aid, with_entries}
use Rattle.policy_machine.proofs.Lawful.{some_same}

-- who is named before and after has the same number
abbrev pub KeepsNumbers : Registry → Registry → Type 0
KeepsNumbers before after = (aid : List ℕ) (n n' : ℕ) → last_receipt before aid ≡ Some n → last_receipt after aid ≡ Some n' → n' ≡ n

abbrev pub receipts_in : Option Entry → Option ℕ
receipts_in o = option_map (λ (entry : Entry). entry.receipts) o

-- with the same entries
pub same_numbers : (before after : Registry) → after.entries ≡ before.entries → KeepsNumbers before after
same_numbers before after entries aid n n' was is =
    let same = ap (λ (xs : List Entry). receipts_in (find (λ (e : Entry). same_aid e.aid aid) xs)) entries in
    some_same n' n (sym is ∙ same ∙ was)

-- where entries are changed in neither AID nor number
pub changed_numbers : (before after : Registry) (change : Entry → Entry) → after.entries ≡ map change before.entries
    → ((entry : Entry) → ((change entry).aid ≡ entry.aid) × ((change entry).receipts ≡ entry.receipts)) → KeepsNumbers before after
changed_numbers before after change entries keeps aid n n' was is =
    let mapped = find_mapped change (λ (e : Entry). same_aid e.aid aid) (λ e. ap (λ (a : List ℕ). same_aid a aid) (keeps e).0) before.entries in
    let same = ap (λ (xs : List Entry). receipts_in (find (λ (e : Entry). same_aid e.aid aid) xs)) entries ∙ ap receipts_in mapped ∙ by (entry_named before aid) in
    some_same n' n (sym is ∙ same ∙ was)
  where
    by : (o : Option Entry) → receipts_in (option_map change o) ≡ receipts_in o
    by None = refl
    by (Some entry) = ap Some (keeps entry).1

-- where some entries are
pub some_changed : (registry changed : Registry) (these : List ℕ → Bool) (change : Entry → Entry)
    → changed.entries ≡ (with_entries registry these change).entries
    → ((entry : Entry) → ((change entry).aid ≡ entry.aid) × ((change entry).receipts ≡ entry.receipts)) → KeepsNumbers registry changed
some_changed registry changed these change entries keeps =
    changed_numbers registry changed (λ entry. cond (these entry.aid) (change entry) entry) entries (λ entry. (
      cond_both (these entry.aid) (change entry) entry (λ (e : Entry). e.aid ≡ entry.aid) (λ _. (keeps entry).0) (λ _. refl),
      cond_both (these entry.aid) (change entry) entry (λ (e : Entry). e.receipts ≡ entry.receipts) (λ _. (keeps entry).1) (λ _. refl),
    ))

-- where each entry that is named is the one that was
pub found_numbers : (before after : Registry) → ((aid : List ℕ) (entry : Entry) → entry_named after aid ≡ Some entry → entry_named before aid ≡ Some entry)
    → KeepsNumbers before after
found_numbers before after was_named aid n n' was is = by (entry_named after aid) refl is
  where
    by : (o : Option Entry) → entry_named after aid ≡ o → receipts_in o ≡ Some n' → n' ≡ n
    by None named on = cc
    by (Some entry) named on = some_same n' n (sym on ∙ sym (ap receipts_in (was_named aid entry named)) ∙ was)

-- where an entry is added
pub added_numbers : (entry : Entry) (before after : Registry) → IsOfCard before → IsFreeAid before entry.aid → IsEntryAdded entry before after → KeepsNumbers before after
added_numbers entry before after of free added aid n n' was is = elim (aid_cases entry.aid aid) [
  | inl same ↦ (let none = ap receipts_in (subst (λ (a : List ℕ). entry_named before a ≡ None) same free.no_entry) in let clash = sym none ∙ was in cc)
  | inr other ↦
      (let same = ap receipts_in (beside_found (λ (e : Entry). e.aid) entry before.entries after.entries of.ascending.entries added.entries aid other) in
      some_same n' n (sym is ∙ same ∙ was))
]
