-- A registry is one that a card may have, with its lists in order, after an entry or an Executable Load File is added.
use Rattle.std.proofs.Common.{◌≡◌, ◌≢◌, true, inl, inr, ℕ, ◌∷◌, List, length, Option, None, Some, refl, ap, sym, subst, ◌∙◌, arith}
use Rattle.std.specs.Prelude.{Contains, IsSome, MatchOption}
use Rattle.std.specs.Option.{option_map}
use Rattle.std.proofs.lemmas.List.Elements.{All-contains, All-contains_itself, All-weaker}
use Rattle.std.proofs.lemmas.List.Sorted.{length_permutation, sum_by-IsPermutation}
use Rattle.std.proofs.lemmas.List.Sums.{sum_by-cons}
use Rattle.card_types.proofs.LeastOfList.{names_sorted, none_fits}
use Rattle.card_types.proofs.LineChanges.{leads_below, leads_put}
use Rattle.card_types.proofs.NamedThings.{beside_found, domain_leads, new_found, new_or_old, still_found}
use Rattle.card_types.proofs.OthersWell.{all_owned, counters_well, keys_well, objects_well}
use Rattle.card_types.proofs.SameAid.{same_aid_decides}
use Rattle.card_types.specs.Aid.{aid_order, same_aid}
use Rattle.card_types.specs.RegistryChange.{IsPut}
use Rattle.card_types.specs.ChangeLaws.{EntryAddedKeeps, FileAddedKeeps, IsOfCard, MayAddEntry, MayAddFile}
use Rattle.card_types.specs.Registry.{Entry, LoadFile, Registry, domain_of, entry_named, file_named, is_domain}
use Rattle.card_types.specs.Well.{IsFactoryFile, IsIssuerDomain, IsWellEntry, IsWellFile, LeadsToRoot, pages_of}
use Rattle.card_types.specs.declared.factory.TheConstants.{ISSUER, FACTORY_FILE}

-- steps from another thing are as before
pub other_step : (entry : Entry) (before : Registry) (entries : List Entry) → IsOfCard before → IsPut (λ a b. aid_order a.aid b.aid) entry before.entries entries
    → (aid : List ℕ) → aid ≢ entry.aid → domain_of (record before { entries = entries }) aid ≡ domain_of before aid
other_step entry before entries of put aid other =
    ap (option_map (λ e. e.domain)) (beside_found (λ (e : Entry). e.aid) entry before.entries entries of.ascending.entries put aid (λ same. other (sym same)))

module _ (entry : Entry) (before : Registry) (entries : List Entry) (of : IsOfCard before) (may : MayAddEntry before entry)
    (put : IsPut (λ a b. aid_order a.aid b.aid) entry before.entries entries) where
  abbrev with_entry : Registry
  with_entry = record before { entries = entries }

  still : (P : Entry → Type 0) (aid : List ℕ) → MatchOption (entry_named before aid) ⊥ P → MatchOption (entry_named with_entry aid) ⊥ P
  still P aid is = still_found (λ (e : Entry). e.aid) entry before.entries entries of.ascending.entries put may.free.no_entry P aid is

  pub new_step : domain_of with_entry entry.aid ≡ Some entry.domain
  new_step = ap (option_map (λ e. e.domain)) (new_found (λ (e : Entry). e.aid) entry before.entries entries of.ascending.entries put)

  -- its domain is another thing
  pub other_domain : entry.domain ≢ entry.aid
  other_domain same =
      subst (λ (o : Option Entry). MatchOption o ⊥ (λ e. is_domain e ≡ true)) (ap (entry_named before) same ∙ may.free.no_entry) may.domain

  line_still : (aid : List ℕ) → LeadsToRoot before aid → LeadsToRoot with_entry aid
  line_still aid leads = leads_put (domain_of before) (domain_of with_entry) entry.aid (ap (option_map (λ e. e.domain)) may.free.no_entry) (other_step entry before entries of put) aid leads

  new_well : IsWellEntry with_entry entry
  new_well = record {
    proper = may.proper;
    domain = still (λ e. is_domain e ≡ true) entry.domain may.domain;
    line = leads_below (domain_of before) (domain_of with_entry) entry.aid entry.domain new_step other_domain
        (line_still entry.domain (domain_leads before of entry.domain may.domain));
    loaded = may.loaded;
  }

  old_well : (e : Entry) → IsWellEntry before e → IsWellEntry with_entry e
  old_well e is = record { proper = is.proper; domain = still (λ d. is_domain d ≡ true) e.domain is.domain; line = line_still e.aid is.line; loaded = is.loaded }

  file_apart : (file : LoadFile) → Contains before.files file → entry_named before file.aid ≡ None → entry_named with_entry file.aid ≡ None
  file_apart file there apart =
      beside_found (λ (e : Entry). e.aid) entry before.entries entries of.ascending.entries put file.aid
      (λ same. none_fits (λ (f : LoadFile). same_aid f.aid entry.aid) before.files may.free.no_file file there ((same_aid_decides file.aid entry.aid).1 (sym same)))
      ∙ apart

  pub entry_added_is : IsOfCard (record before { entries = entries })
  entry_added_is =
      let owned = all_owned before with_entry (λ aid is. still (λ e. is_domain e ≡ true) aid is) refl refl refl in
      record {
        well = record {
          few_entries = omega (arith, length_permutation (entry ∷ before.entries) entries put.same, may.room);
          few_files = of.well.few_files;
          few_keys = of.well.few_keys;
          few_objects = of.well.few_objects;
          few_pages = of.well.few_pages;
          few_keys_each = of.well.few_keys_each;
          issuer = still IsIssuerDomain ISSUER of.well.issuer;
          factory_file = of.well.factory_file;
          entries = All-weaker (Contains entries) (IsWellEntry with_entry)
              (λ e there. elim (new_or_old (λ (e : Entry). e.aid) entry before.entries entries of.ascending.entries put e there) [
                | inl same ↦ subst (IsWellEntry with_entry) same new_well
                | inr old ↦ old_well e (All-contains (IsWellEntry before) before.entries e of.well.entries old)
              ])
              entries (All-contains_itself entries);
          files = All-weaker (Contains before.files) (IsWellFile with_entry)
              (λ file there.
              (let is = All-contains (IsWellFile before) before.files file of.well.files there in
              record { aid = is.aid; apart = file_apart file there is.apart; domain = still (λ e. is_domain e ≡ true) file.domain is.domain; size = is.size }))
              before.files (All-contains_itself before.files);
          keys = keys_well (λ _. Unit {0}) before with_entry owned of.well;
          counters = counters_well (λ _. Unit {0}) before with_entry owned of.well;
          objects = objects_well (λ _. Unit {0}) before with_entry owned of.well;
        };
        ascending = record {
          entries = names_sorted aid_order (λ (e : Entry). e.aid) entries put.ascending;
          files = of.ascending.files;
          keys = of.ascending.keys;
          counters = of.ascending.counters;
          objects = of.ascending.objects;
        };
      }

pub entry_added_keeps : EntryAddedKeeps
entry_added_keeps entry before after of may added =
    subst IsOfCard (sym added.same) (entry_added_is entry before after.entries of may added.entries)

module _ (file : LoadFile) (before : Registry) (files : List LoadFile) (of : IsOfCard before) (may : MayAddFile before file)
    (put : IsPut (λ a b. aid_order a.aid b.aid) file before.files files) where
  abbrev with_file : Registry
  with_file = record before { files = files }

  file_still : (P : LoadFile → Type 0) (aid : List ℕ) → MatchOption (file_named before aid) ⊥ P → MatchOption (file_named with_file aid) ⊥ P
  file_still P aid is = still_found (λ (f : LoadFile). f.aid) file before.files files of.ascending.files put may.free.no_file P aid is

  loaded_still : (aid : List ℕ) → IsSome (file_named before aid) → IsSome (file_named with_file aid)
  loaded_still aid is = found (file_named with_file aid) (file_still (λ _. Unit {0}) aid (there (file_named before aid) is))
    where
      there : (o : Option LoadFile) → IsSome o → MatchOption o ⊥ (λ _. Unit {0})
      there None is = cc
      there (Some f) is = tt

      found : (o : Option LoadFile) → MatchOption o ⊥ (λ _. Unit {0}) → IsSome o
      found None is = absurd is
      found (Some f) is = refl

  pub file_added_is : IsOfCard (record before { files = files })
  file_added_is =
      let owned = all_owned before with_file (λ aid is. is) refl refl refl in
      record {
        well = record {
          few_entries = of.well.few_entries;
          few_files = omega (arith, length_permutation (file ∷ before.files) files put.same, may.room);
          few_keys = of.well.few_keys;
          few_objects = of.well.few_objects;
          few_pages = omega (
            arith,
            sum_by-IsPermutation (λ f. pages_of (length f.bytes)) (file ∷ before.files) files put.same,
            sum_by-cons (λ f. pages_of (length f.bytes)) file before.files,
            may.pages,
          );
          few_keys_each = of.well.few_keys_each;
          issuer = of.well.issuer;
          factory_file = file_still IsFactoryFile FACTORY_FILE of.well.factory_file;
          entries = All-weaker (IsWellEntry before) (IsWellEntry with_file)
              (λ e is. record { proper = is.proper; domain = is.domain; line = is.line; loaded = loaded_still e.file is.loaded }) before.entries of.well.entries;
          files = All-weaker (Contains files) (IsWellFile with_file)
              (λ f there. elim (new_or_old (λ (f : LoadFile). f.aid) file before.files files of.ascending.files put f there) [
                | inl same ↦ subst (IsWellFile with_file) same (record { aid = may.aid; apart = may.free.no_entry; domain = may.domain; size = inr (may.some, may.most) })
                | inr old ↦
                    (let is = All-contains (IsWellFile before) before.files f of.well.files old in
                    record { aid = is.aid; apart = is.apart; domain = is.domain; size = is.size })
              ])
              files (All-contains_itself files);
          keys = keys_well (λ _. Unit {0}) before with_file owned of.well;
          counters = counters_well (λ _. Unit {0}) before with_file owned of.well;
          objects = objects_well (λ _. Unit {0}) before with_file owned of.well;
        };
        ascending = record {
          entries = of.ascending.entries;
          files = names_sorted aid_order (λ (f : LoadFile). f.aid) files put.ascending;
          keys = of.ascending.keys;
          counters = of.ascending.counters;
          objects = of.ascending.objects;
        };
      }

pub file_added_keeps : FileAddedKeeps
file_added_keeps file before after of may added =
    subst IsOfCard (sym added.same) (file_added_is file before after.files of may added.files)
