-- A registry in which entries are changed, but for their AIDs, Executable Load Files and privileges.
use Rattle.std.proofs.Common.{◌≡◌, ◌≤◌, inl, inr, ℕ, Bool, true, cond, List, [], ◌∷◌, length, Option, None, Some, refl, ap, sym, subst, ◌∙◌, arith}
use Rattle.std.specs.Prelude.{All, Contains, IsSome, MatchOption, find, map}
use Rattle.std.specs.List.{sum_by}
use Rattle.std.specs.List.Sorted.{IsStrictlySortedBy}
use Rattle.std.specs.Option.{option_map}
use Rattle.std.proofs.lemmas.Bool.{cases_Bool, cond_both}
use Rattle.std.proofs.lemmas.List.{length-map}
use Rattle.std.proofs.lemmas.List.Elements.{All-contains, All-contains_itself, All-weaker}
use Rattle.card_types.proofs.LeastOfList.{found_fits}
use Rattle.card_types.proofs.LineChanges.{leads_kept}
use Rattle.card_types.proofs.Members.{mapped}
use Rattle.card_types.proofs.OthersWell.{all_owned, counters_well, keys_well, objects_well}
use Rattle.card_types.proofs.SameAid.{same_aid_decides}
use Rattle.card_types.specs.Aid.{aid_order, same_aid}
use Rattle.card_types.specs.Registry.{IsAscending, Entry, LoadFile, Registry, domain_of, entry_named, file_named, is_domain}
use Rattle.card_types.specs.Privileges.{has, security_domain}
use Rattle.card_types.specs.Well.{IsDomainNamed, IsFactoryFile, IsIssuerDomain, IsProperEntry, IsWellEntry, IsWellFile, LeadsToRoot, Well, has_life, pages_of}
use Rattle.card_types.specs.declared.factory.TheConstants.{ISSUER, FACTORY_FILE}
use Rattle.card_types.specs.declared.life.LifeMark.{LifeMark}
use Rattle.card_types.specs.declared.limits.TheConstants.{RECEIPT_LIMIT}

module _ {X : Type 0} (f : X → X) where
  -- what a test finds that a map leaves as it is
  pub find_mapped : (p : X → Bool) → ((x : X) → p (f x) ≡ p x) → (xs : List X) → find p (map f xs) ≡ option_map f (find p xs)
  find_mapped p alike [] = refl
  find_mapped p alike (x ∷ xs) = elim (cases_Bool (p x)) [
    | inl fit ↦ (let first = alike x ∙ fit in rw (first, fit))
    | inr misfit ↦ (let first = alike x ∙ misfit in rw (first, misfit) (find_mapped p alike xs))
  ]

  -- names that a map leaves as they are
  pub names_mapped : {Y : Type 0} (name : X → Y) → ((x : X) → name (f x) ≡ name x) → (xs : List X) → map name (map f xs) ≡ map name xs
  names_mapped name alike [] = refl
  names_mapped name alike (x ∷ xs) = (let first = alike x in let rest = names_mapped name alike xs in cc)

-- what is so of an entry says nothing of its domain, and of its life cycle state and receipt number only that they fit
pub proper_with : (entry : Entry) → IsProperEntry entry → (domain : List ℕ) (life : LifeMark) (number : ℕ) → has_life (is_domain entry) life.life ≡ true → number ≤ RECEIPT_LIMIT
    → IsProperEntry (record entry { domain = domain; life = life; receipts = number })
proper_with entry is domain life number fits most = record {
  aid = is.aid;
  module_ = is.module_;
  kind = is.kind;
  domain_module = is.domain_module;
  life = fits;
  named_privileges = is.named_privileges;
  domain_privileges = is.domain_privileges;
  one_management = is.one_management;
  receipts = most;
}

-- what a change of entries leaves as it was
pub record KeepsNames (change : Entry → Entry) : Type 0 where
  pub aid : (entry : Entry) → (change entry).aid ≡ entry.aid
  pub file : (entry : Entry) → (change entry).file ≡ entry.file
  pub privileges : (entry : Entry) → (change entry).privileges ≡ entry.privileges

-- a change of some entries
pub some_keep : (these : List ℕ → Bool) (change : Entry → Entry) → KeepsNames change → KeepsNames (λ entry. cond (these entry.aid) (change entry) entry)
some_keep these change keeps = record {
  aid = λ entry. cond_both (these entry.aid) (change entry) entry (λ (e : Entry). e.aid ≡ entry.aid) (λ _. keeps.aid entry) (λ _. refl);
  file = λ entry. cond_both (these entry.aid) (change entry) entry (λ (e : Entry). e.file ≡ entry.file) (λ _. keeps.file entry) (λ _. refl);
  privileges = λ entry. cond_both (these entry.aid) (change entry) entry (λ (e : Entry). e.privileges ≡ entry.privileges) (λ _. keeps.privileges entry) (λ _. refl);
}

module _ (registry : Registry) (change : Entry → Entry) (files : List LoadFile) (keeps : KeepsNames change) where
  abbrev pub changed : Registry
  changed = record registry { entries = map change registry.entries; files = files }

  pub entry_changed : (aid : List ℕ) → entry_named changed aid ≡ option_map change (entry_named registry aid)
  entry_changed aid = find_mapped change (λ (e : Entry). same_aid e.aid aid) (λ e. ap (λ (a : List ℕ). same_aid a aid) (keeps.aid e)) registry.entries

  pub domain_still : (aid : List ℕ) → IsDomainNamed registry aid → IsDomainNamed changed aid
  domain_still aid is =
      subst (λ (o : Option Entry). MatchOption o ⊥ (λ entry. is_domain entry ≡ true)) (sym (entry_changed aid)) (by (entry_named registry aid) is)
    where
      by : (o : Option Entry) → MatchOption o ⊥ (λ entry. is_domain entry ≡ true) → MatchOption (option_map change o) ⊥ (λ entry. is_domain entry ≡ true)
      by None is = is
      by (Some entry) is = ap (has security_domain) (keeps.privileges entry) ∙ is

  pub unnamed_still : (aid : List ℕ) → entry_named registry aid ≡ None → entry_named changed aid ≡ None
  unnamed_still aid none = entry_changed aid ∙ ap (option_map change) none

  -- the Issuer Security Domain is still what it is
  pub issuer_still : ((entry : Entry) → entry.aid ≡ ISSUER → IsIssuerDomain entry → IsIssuerDomain (change entry))
      → MatchOption (entry_named registry ISSUER) ⊥ IsIssuerDomain → MatchOption (entry_named changed ISSUER) ⊥ IsIssuerDomain
  issuer_still stays is = subst (λ (o : Option Entry). MatchOption o ⊥ IsIssuerDomain) (sym (entry_changed ISSUER)) (by (entry_named registry ISSUER) refl is)
    where
      by : (o : Option Entry) → entry_named registry ISSUER ≡ o → MatchOption o ⊥ IsIssuerDomain → MatchOption (option_map change o) ⊥ IsIssuerDomain
      by None at is = is
      by (Some entry) at is =
          stays entry ((same_aid_decides entry.aid ISSUER).0 (found_fits (λ (e : Entry). same_aid e.aid ISSUER) registry.entries entry at).1) is

  -- the registry is one that a card may have then, where that is so of what is changed
  module _ (well : Well registry) (proper : (entry : Entry) → Contains registry.entries entry → IsProperEntry (change entry))
      (domains : (entry : Entry) → Contains registry.entries entry → IsDomainNamed registry (change entry).domain)
      (lines : (aid : List ℕ) → LeadsToRoot registry aid → LeadsToRoot changed aid)
      (issuer : MatchOption (entry_named changed ISSUER) ⊥ IsIssuerDomain)
      (loaded : (aid : List ℕ) → IsSome (file_named registry aid) → IsSome (file_named changed aid))
      (factory : MatchOption (file_named changed FACTORY_FILE) ⊥ IsFactoryFile)
      (few : length files ≡ length registry.files)
      (pages : sum_by (λ file. pages_of (length file.bytes)) files ≡ sum_by (λ file. pages_of (length file.bytes)) registry.files)
      (files_well : All (IsWellFile changed) files) where
    entry_well : (entry : Entry) → Contains registry.entries entry → IsWellEntry changed (change entry)
    entry_well entry there =
        let is = All-contains (IsWellEntry registry) registry.entries entry well.entries there in
        record {
          proper = proper entry there;
          domain = domain_still (change entry).domain (domains entry there);
          line = subst (LeadsToRoot changed) (sym (keeps.aid entry)) (lines entry.aid is.line);
          loaded = subst (λ (aid : List ℕ). IsSome (file_named changed aid)) (sym (keeps.file entry)) (loaded entry.file is.loaded);
        }

    pub changed_well : Well changed
    changed_well =
        let owned = all_owned registry changed domain_still refl refl refl in
        record {
          few_entries = omega (arith, length-map registry.entries change, well.few_entries);
          few_files = omega (arith, few, well.few_files);
          few_keys = well.few_keys;
          few_objects = well.few_objects;
          few_pages = omega (arith, pages, well.few_pages);
          few_keys_each = well.few_keys_each;
          issuer = issuer;
          factory_file = factory;
          entries = All-weaker (Contains (map change registry.entries)) (IsWellEntry changed)
              (λ entry there.
              (let from = mapped change registry.entries entry there in subst (IsWellEntry changed) from.2 (entry_well from.0 from.1)))
              (map change registry.entries) (All-contains_itself (map change registry.entries));
          files = files_well;
          keys = keys_well (λ _. Unit {0}) registry changed owned well;
          counters = counters_well (λ _. Unit {0}) registry changed owned well;
          objects = objects_well (λ _. Unit {0}) registry changed owned well;
        }

-- where entries are changed alone, and none of them gets another domain
module _ (registry : Registry) (change : Entry → Entry) (keeps : KeepsNames change) (domain : (entry : Entry) → (change entry).domain ≡ entry.domain) where
  abbrev pub entries_changed : Registry
  entries_changed = record registry { entries = map change registry.entries }

  pub steps_still : (aid : List ℕ) → domain_of entries_changed aid ≡ domain_of registry aid
  steps_still aid = ap (option_map (λ e. e.domain)) (entry_changed registry change registry.files keeps aid) ∙ by (entry_named registry aid)
    where
      by : (o : Option Entry) → option_map (λ (e : Entry). e.domain) (option_map change o) ≡ option_map (λ e. e.domain) o
      by None = refl
      by (Some entry) = ap Some (domain entry)

  pub entries_changed_well : Well registry → ((entry : Entry) → Contains registry.entries entry → IsProperEntry (change entry))
      → ((entry : Entry) → entry.aid ≡ ISSUER → IsIssuerDomain entry → IsIssuerDomain (change entry)) → Well entries_changed
  entries_changed_well well proper issuer =
      changed_well registry change registry.files keeps well proper
      (λ entry there. subst (IsDomainNamed registry) (sym (domain entry)) (All-contains (IsWellEntry registry) registry.entries entry well.entries there).domain)
      (λ aid leads. leads_kept (domain_of registry) (domain_of entries_changed) aid leads (λ x _. steps_still x))
      (issuer_still registry change registry.files keeps issuer well.issuer)
      (λ aid is. is) well.factory_file refl refl
      (All-weaker (IsWellFile registry) (IsWellFile entries_changed)
      (λ file is. record {
        aid = is.aid;
        apart = unnamed_still registry change registry.files keeps file.aid is.apart;
        domain = domain_still registry change registry.files keeps file.domain is.domain;
        size = is.size;
      })
      registry.files well.files)

  pub entries_changed_ascending : IsAscending registry → IsAscending entries_changed
  entries_changed_ascending ascending = record {
    entries = subst (λ (aids : List (List ℕ)). IsStrictlySortedBy aid_order aids) (sym (names_mapped change (λ (e : Entry). e.aid) keeps.aid registry.entries)) ascending.entries;
    files = ascending.files;
    keys = ascending.keys;
    counters = ascending.counters;
    objects = ascending.objects;
  }
