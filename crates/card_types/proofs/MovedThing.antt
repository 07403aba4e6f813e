-- A registry is one that a card may have, with its lists in order, after an entry or an Executable Load File is moved to another
-- domain.
use Rattle.std.proofs.Common.{◌≡◌, ◌≢◌, inl, inr, ℕ, cond, List, [], ◌∷◌, length, Option, None, Some, refl, ap, sym, subst, ◌∙◌, arith}
use Rattle.std.specs.Prelude.{Contains, IsSome, MatchOption, map}
use Rattle.std.specs.List.{sum_by}
use Rattle.std.specs.List.Sorted.{IsStrictlySortedBy}
use Rattle.std.specs.Option.{option_map}
use Rattle.std.proofs.lemmas.Bool.{cond_both}
use Rattle.std.proofs.lemmas.List.{length-map}
use Rattle.std.proofs.lemmas.List.Elements.{All-contains, All-contains_itself, All-weaker}
use Rattle.std.proofs.lemmas.List.Sums.{sum_by-cons}
use Rattle.card_types.proofs.LeastOfList.{found_fits}
use Rattle.card_types.proofs.LineChanges.{leads_kept, leads_moved, leads_thing}
use Rattle.card_types.proofs.MappedEntries.{KeepsNames, changed_well, domain_still, entry_changed, find_mapped, issuer_still, names_mapped, proper_with, some_keep, unnamed_still}
use Rattle.card_types.proofs.Members.{mapped}
use Rattle.card_types.proofs.NamedThings.{aid_cases, domain_leads}
use Rattle.card_types.proofs.SameAid.{same_aid_decides}
use Rattle.card_types.specs.Aid.{aid_order, same_aid}
use Rattle.card_types.specs.ChangeLaws.{IsOfCard, MayMove, MovedKeeps}
use Rattle.card_types.specs.Registry.{Entry, LoadFile, Registry, domain_of, entry_named, file_named}
use Rattle.card_types.specs.RegistryChange.{with_thing_in_domain}
use Rattle.card_types.specs.Well.{IsDomainNamed, IsFactoryFile, IsIssuerDomain, IsProperEntry, IsWellEntry, IsWellFile, LeadsToRoot, pages_of}
use Rattle.card_types.specs.declared.factory.TheConstants.{ISSUER, FACTORY_FILE}

-- a sum over things that a map leaves as great as they are
sum_mapped : {X : Type 0} (size : X → ℕ) (f : X → X) → ((x : X) → size (f x) ≡ size x) → (xs : List X) → sum_by size (map f xs) ≡ sum_by size xs
sum_mapped size f alike [] = refl
sum_mapped size f alike (x ∷ xs) =
    omega (arith, alike x, sum_mapped size f alike xs, sum_by-cons size (f x) (map f xs), sum_by-cons size x xs)

module _ (registry : Registry) (aid domain : List ℕ) where
  abbrev in_domain : Entry → Entry
  in_domain entry = record entry { domain = domain }

  abbrev some : Entry → Entry
  some entry = cond (same_aid entry.aid aid) (in_domain entry) entry

  abbrev file_in : LoadFile → LoadFile
  file_in file = cond (same_aid file.aid aid) (record file { domain = domain }) file

  abbrev files : List LoadFile
  files = map file_in registry.files

  abbrev after : Registry
  after = with_thing_in_domain registry aid domain

  keeps : KeepsNames some
  keeps = some_keep (λ other. same_aid other aid) in_domain (record { aid = λ _. refl; file = λ _. refl; privileges = λ _. refl })

  -- steps from another thing are as before
  pub step_other : (x : List ℕ) → x ≢ aid → domain_of (with_thing_in_domain registry aid domain) x ≡ domain_of registry x
  step_other x other = ap (option_map (λ e. e.domain)) (entry_changed registry some files keeps x) ∙ by (entry_named registry x) refl
    where
      by : (o : Option Entry) → entry_named registry x ≡ o → option_map (λ (e : Entry). e.domain) (option_map some o) ≡ option_map (λ e. e.domain) o
      by None at = refl
      by (Some entry) at =
          (let named = (same_aid_decides entry.aid x).0 (found_fits (λ (e : Entry). same_aid e.aid x) registry.entries entry at).1 in
          cond_both (same_aid entry.aid aid) (in_domain entry) entry (λ (e : Entry). Some e.domain ≡ Some entry.domain)
          (λ hit. absurd (other (sym named ∙ (same_aid_decides entry.aid aid).0 hit))) (λ missed. refl))

  module _ (of : IsOfCard registry) (may : MayMove registry aid domain) where
    -- the step from an entry that is moved leads to its new domain
    pub step_thing : (entry : Entry) → entry_named registry aid ≡ Some entry → domain_of (with_thing_in_domain registry aid domain) aid ≡ Some domain
    step_thing entry at =
        let hit = (found_fits (λ (e : Entry). same_aid e.aid aid) registry.entries entry at).1 in
        ap (option_map (λ e. e.domain)) (entry_changed registry some files keeps aid ∙ ap (option_map some) at)
        ∙ cond_both (same_aid entry.aid aid) (in_domain entry) entry (λ (e : Entry). Some e.domain ≡ Some domain) (λ _. refl) (λ missed. (let clash = sym hit ∙ missed in cc))

    proper : (entry : Entry) → Contains registry.entries entry → IsProperEntry (some entry)
    proper entry there =
        let is = (All-contains (IsWellEntry registry) registry.entries entry of.well.entries there).proper in
        cond_both (same_aid entry.aid aid) (in_domain entry) entry IsProperEntry
        (λ hit. proper_with entry is domain entry.life entry.receipts is.life is.receipts)
        (λ missed. is)

    domains : (entry : Entry) → Contains registry.entries entry → IsDomainNamed registry (some entry).domain
    domains entry there =
        cond_both (same_aid entry.aid aid) (in_domain entry) entry (λ (e : Entry). IsDomainNamed registry e.domain) (λ hit. may.into)
        (λ missed. (All-contains (IsWellEntry registry) registry.entries entry of.well.entries there).domain)

    lines : (x : List ℕ) → LeadsToRoot registry x → LeadsToRoot after x
    lines x leads = by (entry_named registry aid) refl
      where
        by : (o : Option Entry) → entry_named registry aid ≡ o → LeadsToRoot after x
        by None at =
            leads_kept (domain_of registry) (domain_of after) x leads (λ y _. elim (aid_cases y aid) [
              | inr other ↦ step_other y other
              | inl same ↦
                  (let before : entry_named registry y ≡ None = ap (entry_named registry) same ∙ at in
                  ap (option_map (λ e. e.domain)) (entry_changed registry some files keeps y ∙ ap (option_map some) before ∙ sym before))
            ])
        by (Some entry) at =
            leads_moved (domain_of registry) (domain_of after) aid step_other (λ y. aid_cases y aid)
            (elim (aid_cases domain aid) [
              | inl same ↦ (aid ∷ [], (refl, step_thing entry at ∙ ap Some same))
              | inr other ↦
                  (let up = domain_leads registry of domain may.into in
                  leads_thing (domain_of registry) (domain_of after) aid step_other (λ y. aid_cases y aid) domain (step_thing entry at) other up
                  (λ there. other (may.not_below up.0 up.1 there)))
            ])
            x leads

    issuer : (entry : Entry) → entry.aid ≡ ISSUER → IsIssuerDomain entry → IsIssuerDomain (some entry)
    issuer entry named is =
        cond_both (same_aid entry.aid aid) (in_domain entry) entry IsIssuerDomain
        (λ hit. absurd (may.other (sym ((same_aid_decides entry.aid aid).0 hit) ∙ named))) (λ missed. is)

    file_aid : (file : LoadFile) → (file_in file).aid ≡ file.aid
    file_aid file = cond_both (same_aid file.aid aid) (record file { domain = domain }) file (λ (f : LoadFile). f.aid ≡ file.aid) (λ _. refl) (λ _. refl)

    file_size : (file : LoadFile) → pages_of (length (file_in file).bytes) ≡ pages_of (length file.bytes)
    file_size file =
        cond_both (same_aid file.aid aid) (record file { domain = domain }) file (λ (f : LoadFile). pages_of (length f.bytes) ≡ pages_of (length file.bytes)) (λ _. refl) (λ _. refl)

    file_found : (x : List ℕ) → file_named after x ≡ option_map file_in (file_named registry x)
    file_found x = find_mapped file_in (λ (f : LoadFile). same_aid f.aid x) (λ f. ap (λ (a : List ℕ). same_aid a x) (file_aid f)) registry.files

    loaded : (x : List ℕ) → IsSome (file_named registry x) → IsSome (file_named after x)
    loaded x is = subst IsSome (sym (file_found x)) (by (file_named registry x) is)
      where
        by : (o : Option LoadFile) → IsSome o → IsSome (option_map file_in o)
        by None is = is
        by (Some file) is = is

    factory : MatchOption (file_named after FACTORY_FILE) ⊥ IsFactoryFile
    factory = subst (λ (o : Option LoadFile). MatchOption o ⊥ IsFactoryFile) (sym (file_found FACTORY_FILE)) (by (file_named registry FACTORY_FILE) refl of.well.factory_file)
      where
        by : (o : Option LoadFile) → file_named registry FACTORY_FILE ≡ o → MatchOption o ⊥ IsFactoryFile → MatchOption (option_map file_in o) ⊥ IsFactoryFile
        by None at is = is
        by (Some file) at is =
            (let named = (same_aid_decides file.aid FACTORY_FILE).0 (found_fits (λ (f : LoadFile). same_aid f.aid FACTORY_FILE) registry.files file at).1 in
            cond_both (same_aid file.aid aid) (record file { domain = domain }) file IsFactoryFile
            (λ hit. absurd (may.other_file (sym ((same_aid_decides file.aid aid).0 hit) ∙ named))) (λ missed. is))

    file_well : (file : LoadFile) → IsWellFile registry file → IsWellFile after (file_in file)
    file_well file is =
        let apart = unnamed_still registry some files keeps file.aid is.apart in
        cond_both (same_aid file.aid aid) (record file { domain = domain }) file (IsWellFile after)
        (λ hit. record { aid = is.aid; apart = apart; domain = domain_still registry some files keeps domain may.into; size = is.size })
        (λ missed. record { aid = is.aid; apart = apart; domain = domain_still registry some files keeps file.domain is.domain; size = is.size })

    pub moved_is : IsOfCard (with_thing_in_domain registry aid domain)
    moved_is = record {
      well = changed_well registry some files keeps of.well proper domains lines (issuer_still registry some files keeps issuer of.well.issuer) loaded factory
          (length-map registry.files file_in) (sum_mapped (λ file. pages_of (length file.bytes)) file_in file_size registry.files)
          (All-weaker (Contains files) (IsWellFile after)
          (λ file there.
          (let from = mapped file_in registry.files file there in
          subst (IsWellFile after) from.2 (file_well from.0 (All-contains (IsWellFile registry) registry.files from.0 of.well.files from.1))))
          files (All-contains_itself files));
      ascending = record {
        entries = subst (IsStrictlySortedBy aid_order) (sym (names_mapped some (λ (e : Entry). e.aid) keeps.aid registry.entries)) of.ascending.entries;
        files = subst (IsStrictlySortedBy aid_order) (sym (names_mapped file_in (λ (f : LoadFile). f.aid) file_aid registry.files)) of.ascending.files;
        keys = of.ascending.keys;
        counters = of.ascending.counters;
        objects = of.ascending.objects;
      };
    }

pub moved_keeps : MovedKeeps
moved_keeps registry aid domain of may = moved_is registry aid domain of may
