-- A registry is one that a card may have, with its lists in order, after an entry or an Executable Load File is removed.
use Rattle.std.proofs.Common.{◌≡◌, ◌≢◌, ◌≤◌, ℕ, Bool, true, cond, List, length, Option, None, Some, refl, ap, sym, subst, ◌∙◌, arith}
use Rattle.std.specs.Prelude.{Contains, IsSome, MatchOption, filter, not}
use Rattle.std.specs.List.{sum_by}
use Rattle.std.specs.Option.{option_map}
use Rattle.std.proofs.lemmas.Bool.{not-true, not_from_false}
use Rattle.std.proofs.lemmas.List.Elements.{All-contains, All-contains_itself, All-weaker}
use Rattle.std.proofs.lemmas.List.Filters.{sum_by-filter_both}
use Rattle.std.proofs.lemmas.List.Kept.{IsStrictlySortedBy-filter}
use Rattle.std.proofs.lemmas.List.Sums.{length-filter}
use Rattle.card_types.proofs.LeastOfList.{found_fits}
use Rattle.card_types.proofs.LineChanges.{leads_removed}
use Rattle.card_types.proofs.Members.{contains_filter, filtered}
use Rattle.card_types.proofs.NamedThings.{aid_differs, of_rest, rest_found, rest_shorter, rest_sorted, rest_unfound}
use Rattle.card_types.proofs.OthersWell.{KeepsOwned, all_owned, counters_well, keys_well, objects_well}
use Rattle.card_types.proofs.SameAid.{same_aid_decides}
use Rattle.card_types.specs.Aid.{same_aid}
use Rattle.card_types.specs.Registry.{counter_order, key_order, object_order, Counter, Entry, Key, LoadFile, Object, Registry, domain_of, entry_named, file_named, is_domain}
use Rattle.card_types.specs.ChangeLaws.{EntryRemovedKeeps, FileRemovedKeeps, IsOfCard, MayRemoveEntry}
use Rattle.card_types.specs.RegistryChange.{without_entry, without_file}
use Rattle.card_types.specs.Well.{IsFactoryFile, IsIssuerDomain, IsWellEntry, IsWellFile, pages_of}
use Rattle.card_types.specs.declared.factory.TheConstants.{ISSUER, FACTORY_FILE}

-- a sum over what a filter keeps
sum_kept : {X : Type 0} (keep : X → Bool) (size : X → ℕ) (xs : List X) → sum_by size (filter keep xs) ≤ sum_by size xs
sum_kept keep size xs = omega (arith, sum_by-filter_both keep (λ x. not (keep x)) (λ _. refl) size xs)

-- what a filter keeps of another's
fewer_kept : {X : Type 0} (p keep : X → Bool) (xs : List X) → length (filter p (filter keep xs)) ≤ length (filter p xs)
fewer_kept p keep xs = omega (arith, length-filter p (filter keep xs), length-filter p xs, sum_kept keep (λ x. cond (p x) 1 0) xs)

-- other entries are found as before, and steps from them lead where they led
module _ (registry : Registry) (aid name : List ℕ) (other : name ≢ aid) where
  found_still : entry_named (without_entry registry aid) name ≡ entry_named registry name
  found_still = rest_found (λ (e : Entry). e.aid) aid name other registry.entries

  pub other_step : domain_of (without_entry registry aid) name ≡ domain_of registry name
  other_step = ap (option_map (λ e. e.domain)) found_still

module _ (registry : Registry) (aid : List ℕ) (of : IsOfCard registry) (may : MayRemoveEntry registry aid) where
  abbrev after : Registry
  after = without_entry registry aid

  named_still : (P : Entry → Type 0) (name : List ℕ) → name ≢ aid → MatchOption (entry_named registry name) ⊥ P → MatchOption (entry_named after name) ⊥ P
  named_still P name other is = subst (λ (o : Option Entry). MatchOption o ⊥ P) (sym (found_still registry aid name other)) is

  -- nothing else steps to it
  pub none_steps : (x next : List ℕ) → x ≢ aid → domain_of registry x ≡ Some next → next ≢ aid
  none_steps x next other steps same = by (entry_named registry x) refl steps
    where
      by : (o : Option Entry) → entry_named registry x ≡ o → option_map (λ (e : Entry). e.domain) o ≡ Some next → ⊥
      by None at on = cc
      by (Some entry) at on =
          (let found = found_fits (λ (e : Entry). same_aid e.aid x) registry.entries entry at in
          let up : entry.domain ≡ next = cc in
          other (sym ((same_aid_decides entry.aid x).0 found.1) ∙ may.no_entry entry found.0 (up ∙ same)))

  -- what belongs to other owners stays
  stays : (owner : List ℕ) → owner ≢ aid → not (same_aid owner aid) ≡ true
  stays owner other = not_from_false (same_aid owner aid) (aid_differs owner aid other)

  another : (owner : List ℕ) → not (same_aid owner aid) ≡ true → owner ≢ aid
  another owner kept same = (let clash = sym ((same_aid_decides owner aid).1 same) ∙ not-true (same_aid owner aid) kept in cc)

  owned : KeepsOwned (λ owner. owner ≢ aid) registry after
  owned = record {
    domains = λ owner other is. named_still (λ e. is_domain e ≡ true) owner other is;
    keys_there = λ key there other. contains_filter (λ (k : Key). not (same_aid k.owner aid)) registry.keys key there (stays key.owner other);
    keys_from = λ key there.
        (let kept = filtered (λ (k : Key). not (same_aid k.owner aid)) registry.keys key there in (kept.0, another key.owner kept.1));
    counters_there = λ counter there other.
        contains_filter (λ (c : Counter). not (same_aid c.owner aid)) registry.counters counter there (stays counter.owner other);
    counters_from = λ counter there.
        (let kept = filtered (λ (c : Counter). not (same_aid c.owner aid)) registry.counters counter there in (kept.0, another counter.owner kept.1));
    objects_from = λ object there.
        (let kept = filtered (λ (o : Object). not (same_aid o.owner aid)) registry.objects object there in (kept.0, another object.owner kept.1));
  }

  entry_still : (entry : Entry) → Contains registry.entries entry → entry.aid ≢ aid → IsWellEntry after entry
  entry_still entry there other =
      let is = All-contains (IsWellEntry registry) registry.entries entry of.well.entries there in
      record {
        proper = is.proper;
        domain = named_still (λ e. is_domain e ≡ true) entry.domain (λ same. other (may.no_entry entry there same)) is.domain;
        line = leads_removed (domain_of registry) (domain_of after) aid none_steps (other_step registry aid) entry.aid other is.line;
        loaded = is.loaded;
      }

  few_of : {X : Type 0} (owner : X → List ℕ) (xs : List X) → length (filter (λ x. not (same_aid (owner x) aid)) xs) ≤ length xs
  few_of owner xs = rest_shorter owner aid xs

  pub entry_removed_is : IsOfCard (without_entry registry aid)
  entry_removed_is = record {
    well = record {
      few_entries = omega (arith, few_of (λ (e : Entry). e.aid) registry.entries, of.well.few_entries);
      few_files = of.well.few_files;
      few_keys = omega (arith, few_of (λ (k : Key). k.owner) registry.keys, of.well.few_keys);
      few_objects = omega (arith, few_of (λ (o : Object). o.owner) registry.objects, of.well.few_objects);
      few_pages = of.well.few_pages;
      few_keys_each = λ owner.
          omega (arith, fewer_kept (λ (k : Key). same_aid k.owner owner) (λ (k : Key). not (same_aid k.owner aid)) registry.keys, of.well.few_keys_each owner);
      issuer = named_still IsIssuerDomain ISSUER (λ same. may.other (sym same)) of.well.issuer;
      factory_file = of.well.factory_file;
      entries = All-weaker (Contains after.entries) (IsWellEntry after)
          (λ entry there. (let kept = of_rest (λ (e : Entry). e.aid) aid registry.entries entry there in entry_still entry kept.0 kept.1))
          after.entries (All-contains_itself after.entries);
      files = All-weaker (Contains registry.files) (IsWellFile after)
          (λ file there.
          (let is = All-contains (IsWellFile registry) registry.files file of.well.files there in
          record {
            aid = is.aid;
            apart = rest_unfound (λ (e : Entry). e.aid) aid file.aid registry.entries is.apart;
            domain = named_still (λ e. is_domain e ≡ true) file.domain (may.no_file file there) is.domain;
            size = is.size;
          }))
          registry.files (All-contains_itself registry.files);
      keys = keys_well (λ owner. owner ≢ aid) registry after owned of.well;
      counters = counters_well (λ owner. owner ≢ aid) registry after owned of.well;
      objects = objects_well (λ owner. owner ≢ aid) registry after owned of.well;
    };
    ascending = record {
      entries = rest_sorted (λ (e : Entry). e.aid) aid registry.entries of.ascending.entries;
      files = of.ascending.files;
      keys = IsStrictlySortedBy-filter key_order (λ k. not (same_aid k.owner aid)) registry.keys of.ascending.keys;
      counters = IsStrictlySortedBy-filter counter_order (λ c. not (same_aid c.owner aid)) registry.counters of.ascending.counters;
      objects = IsStrictlySortedBy-filter object_order (λ o. not (same_aid o.owner aid)) registry.objects of.ascending.objects;
    };
  }

pub entry_removed_keeps : EntryRemovedKeeps
entry_removed_keeps registry aid of may = entry_removed_is registry aid of may

pub file_removed_keeps : FileRemovedKeeps
file_removed_keeps registry aid of may =
    let after = without_file registry aid in
    let owned = all_owned registry after (λ name is. is) refl refl refl in
    record {
      well = record {
        few_entries = of.well.few_entries;
        few_files = omega (arith, rest_shorter (λ (f : LoadFile). f.aid) aid registry.files, of.well.few_files);
        few_keys = of.well.few_keys;
        few_objects = of.well.few_objects;
        few_pages = omega (arith, sum_kept (λ f. not (same_aid f.aid aid)) (λ f. pages_of (length f.bytes)) registry.files, of.well.few_pages);
        few_keys_each = of.well.few_keys_each;
        issuer = of.well.issuer;
        factory_file = subst (λ (o : Option LoadFile). MatchOption o ⊥ IsFactoryFile) (sym (file_still FACTORY_FILE (λ same. may.other (sym same)))) of.well.factory_file;
        entries = All-weaker (Contains registry.entries) (IsWellEntry after)
            (λ entry there.
            (let is = All-contains (IsWellEntry registry) registry.entries entry of.well.entries there in
            record {
              proper = is.proper;
              domain = is.domain;
              line = is.line;
              loaded = subst IsSome (sym (file_still entry.file (may.no_entry entry there))) is.loaded;
            }))
            registry.entries (All-contains_itself registry.entries);
        files = All-weaker (Contains after.files) (IsWellFile after)
            (λ file there.
            (let kept = of_rest (λ (f : LoadFile). f.aid) aid registry.files file there in
            let is = All-contains (IsWellFile registry) registry.files file of.well.files kept.0 in
            record { aid = is.aid; apart = is.apart; domain = is.domain; size = is.size }))
            after.files (All-contains_itself after.files);
        keys = keys_well (λ _. Unit {0}) registry after owned of.well;
        counters = counters_well (λ _. Unit {0}) registry after owned of.well;
        objects = objects_well (λ _. Unit {0}) registry after owned of.well;
      };
      ascending = record {
        entries = of.ascending.entries;
        files = rest_sorted (λ (f : LoadFile). f.aid) aid registry.files of.ascending.files;
        keys = of.ascending.keys;
        counters = of.ascending.counters;
        objects = of.ascending.objects;
      };
    }
  where
    file_still : (name : List ℕ) → name ≢ aid → file_named (without_file registry aid) name ≡ file_named registry name
    file_still name other = rest_found (λ (f : LoadFile). f.aid) aid name other registry.files
