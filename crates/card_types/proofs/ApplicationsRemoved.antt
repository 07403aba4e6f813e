-- A registry is one that a card may have, with its lists in order, after the applications that come from one Executable Load File are
-- removed. None of them is a security domain, so nothing is in one or owned by one.
use Rattle.std.proofs.Common.{◌≡◌, ◌≢◌, ℕ, Bool, true, List, Option, None, Some, refl, ap, sym, subst, ◌∙◌, arith}
use Rattle.std.specs.Prelude.{Contains, MatchOption, not}
use Rattle.std.specs.Option.{option_map}
use Rattle.std.proofs.lemmas.Bool.{not_from_false}
use Rattle.std.proofs.lemmas.List.Elements.{All-contains, All-contains_itself, All-weaker}
use Rattle.card_types.proofs.LeastOfList.{found_fits}
use Rattle.card_types.proofs.LineChanges.{along_line, leads_kept}
use Rattle.card_types.proofs.Members.{filtered}
use Rattle.card_types.proofs.NamedThings.{aid_differs, kept_shorter, found_kept, member_named, sorted_kept, unfound_kept}
use Rattle.card_types.proofs.OthersWell.{all_owned, counters_well, keys_well, objects_well}
use Rattle.card_types.proofs.SameAid.{aid_same_itself, same_aid_decides}
use Rattle.card_types.specs.Aid.{same_aid}
use Rattle.card_types.specs.ChangeLaws.{ApplicationsRemovedKeep, IsOfCard}
use Rattle.card_types.specs.Registry.{Entry, LoadFile, Registry, domain_of, entry_named, is_domain}
use Rattle.card_types.specs.RegistryChange.{without_applications}
use Rattle.card_types.specs.Well.{IsDomainNamed, IsIssuerDomain, IsWellEntry, IsWellFile}
use Rattle.card_types.specs.declared.factory.TheConstants.{ISSUER, FACTORY_FILE}

module _ (registry : Registry) (file : List ℕ) where
  abbrev after : Registry
  after = without_applications registry file

  abbrev keep : Entry → Bool
  keep entry = not (same_aid entry.file file)

  -- what stays is found as before
  found_still : (name : List ℕ) (entry : Entry) → entry_named registry name ≡ Some entry → keep entry ≡ true → entry_named after name ≡ Some entry
  found_still name entry at stays = found_kept (λ (e : Entry). e.aid) keep (λ e. same_aid e.aid name) entry registry.entries at stays

  -- it steps to the domain that it was in
  abbrev StepsStill : List ℕ → Type 0
  StepsStill name = domain_of after name ≡ domain_of registry name

  pub stays_step : (name : List ℕ) (entry : Entry) → entry_named registry name ≡ Some entry → not (same_aid entry.file file) ≡ true
      → domain_of (without_applications registry file) name ≡ domain_of registry name
  stays_step name entry at stays = ap (option_map (λ (e : Entry). e.domain)) (found_still name entry at stays ∙ sym at)

  module _ (of : IsOfCard registry) (other : file ≢ FACTORY_FILE) where
    well_entry : (entry : Entry) → Contains registry.entries entry → IsWellEntry registry entry
    well_entry entry there = All-contains (IsWellEntry registry) registry.entries entry of.well.entries there

    -- what comes from the factory's file stays, and so does each domain
    factory_stays : (entry : Entry) → entry.file ≡ FACTORY_FILE → keep entry ≡ true
    factory_stays entry is = not_from_false (same_aid entry.file file) (aid_differs entry.file file (λ same. other (sym same ∙ is)))

    pub domain_stays : (entry : Entry) → Contains registry.entries entry → is_domain entry ≡ true → keep entry ≡ true
    domain_stays entry there domain =
        factory_stays entry ((same_aid_decides entry.file FACTORY_FILE).0 (sym (well_entry entry there).proper.kind ∙ domain))

    named_still : (P : Entry → Type 0) → ((entry : Entry) → Contains registry.entries entry → P entry → keep entry ≡ true) → (name : List ℕ)
        → MatchOption (entry_named registry name) ⊥ P → MatchOption (entry_named after name) ⊥ P
    named_still P stays name is = by (entry_named registry name) refl is
      where
        by : (o : Option Entry) → entry_named registry name ≡ o → MatchOption o ⊥ P → MatchOption (entry_named after name) ⊥ P
        by None at is = absurd is
        by (Some entry) at is =
            (let there = (found_fits (λ (e : Entry). same_aid e.aid name) registry.entries entry at).0 in
            subst (λ (o : Option Entry). MatchOption o ⊥ P) (sym (found_still name entry at (stays entry there is))) is)

    domain_still : (name : List ℕ) → IsDomainNamed registry name → IsDomainNamed after name
    domain_still = named_still (λ e. is_domain e ≡ true) domain_stays

    next_step : (x next : List ℕ) → domain_of registry x ≡ Some next → StepsStill next
    next_step x next steps = by (entry_named registry x) refl steps
      where
        at_domain : (o : Option Entry) → entry_named registry next ≡ o → MatchOption o ⊥ (λ e. is_domain e ≡ true) → StepsStill next
        at_domain None at is = absurd is
        at_domain (Some domain) at is =
            stays_step next domain at (domain_stays domain (found_fits (λ (e : Entry). same_aid e.aid next) registry.entries domain at).0 is)

        by : (o : Option Entry) → entry_named registry x ≡ o → option_map (λ (e : Entry). e.domain) o ≡ Some next → StepsStill next
        by None at on = cc
        by (Some entry) at on =
            (let there = (found_fits (λ (e : Entry). same_aid e.aid x) registry.entries entry at).0 in
            let up : entry.domain ≡ next = cc in
            at_domain (entry_named registry next) refl (subst (IsDomainNamed registry) up (well_entry entry there).domain))

    entry_still : (entry : Entry) → Contains registry.entries entry → keep entry ≡ true → IsWellEntry after entry
    entry_still entry there stays =
        let is = well_entry entry there in
        let first = stays_step entry.aid entry (member_named registry of entry there entry.aid (aid_same_itself entry.aid)) stays in
        record {
          proper = is.proper;
          domain = domain_still entry.domain is.domain;
          line = leads_kept (domain_of registry) (domain_of after) entry.aid is.line
              (along_line (domain_of registry) StepsStill (λ x next _ steps. next_step x next steps) entry.aid is.line.0 first is.line.1);
          loaded = is.loaded;
        }

    pub applications_removed_is : IsOfCard (without_applications registry file)
    applications_removed_is =
        let owned = all_owned registry after domain_still refl refl refl in
        record {
          well = record {
            few_entries = omega (arith, kept_shorter (λ (e : Entry). e.aid) keep registry.entries, of.well.few_entries);
            few_files = of.well.few_files;
            few_keys = of.well.few_keys;
            few_objects = of.well.few_objects;
            few_pages = of.well.few_pages;
            few_keys_each = of.well.few_keys_each;
            issuer = named_still IsIssuerDomain (λ entry _ is. factory_stays entry is.file) ISSUER of.well.issuer;
            factory_file = of.well.factory_file;
            entries = All-weaker (Contains after.entries) (IsWellEntry after)
                (λ entry there. (let kept = filtered keep registry.entries entry there in entry_still entry kept.0 kept.1))
                after.entries (All-contains_itself after.entries);
            files = All-weaker (IsWellFile registry) (IsWellFile after)
                (λ (f : LoadFile) is. record {
                  aid = is.aid;
                  apart = unfound_kept (λ (e : Entry). e.aid) keep (λ e. same_aid e.aid f.aid) registry.entries is.apart;
                  domain = domain_still f.domain is.domain;
                  size = is.size;
                })
                registry.files of.well.files;
            keys = keys_well (λ _. Unit {0}) registry after owned of.well;
            counters = counters_well (λ _. Unit {0}) registry after owned of.well;
            objects = objects_well (λ _. Unit {0}) registry after owned of.well;
          };
          ascending = record {
            entries = sorted_kept (λ (e : Entry). e.aid) keep registry.entries of.ascending.entries;
            files = of.ascending.files;
            keys = of.ascending.keys;
            counters = of.ascending.counters;
            objects = of.ascending.objects;
          };
        }

pub applications_removed_keep : ApplicationsRemovedKeep
applications_removed_keep registry file of other = applications_removed_is registry file of other
