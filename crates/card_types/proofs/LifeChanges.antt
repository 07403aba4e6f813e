-- A registry is one that a card may have, with its lists in order, after a life cycle state, locks or a receipt number of entries
-- are changed, or the life cycle state of the card.
use Rattle.std.proofs.Common.{◌≡◌, ℕ, Bool, true, cond, List, Option, None, Some, refl, ap, sym, subst, ◌∙◌}
use Rattle.std.specs.Prelude.{Contains, IfSome}
use Rattle.std.proofs.lemmas.Bool.{cond_both}
use Rattle.std.proofs.lemmas.List.Elements.{All-contains, All-weaker}
use Rattle.card_types.proofs.MappedEntries.{KeepsNames, entries_changed_ascending, entries_changed_well, proper_with, some_keep}
use Rattle.card_types.proofs.NamedThings.{member_named}
use Rattle.card_types.proofs.OthersWell.{all_owned, counters_well, keys_well, objects_well}
use Rattle.card_types.proofs.SameAid.{same_aid_decides}
use Rattle.card_types.specs.Aid.{same_aid}
use Rattle.card_types.specs.ChangeLaws.{CardLifeKeeps, IsOfCard, LifeKeeps, LocksKeep, ReceiptsKeep}
use Rattle.card_types.specs.Registry.{Entry, Registry, entry_named, is_domain}
use Rattle.card_types.specs.RegistryChange.{with_card_life, with_entries}
use Rattle.card_types.specs.Well.{IsIssuerDomain, IsProperEntry, IsWellEntry, IsWellFile, has_life}
use Rattle.card_types.specs.declared.factory.TheConstants.{ISSUER}

-- some entries are changed, in neither AID, domain, Executable Load File, Module nor privileges
module _ (registry : Registry) (these : List ℕ → Bool) (change : Entry → Entry) (keeps : KeepsNames change)
    (domain : (entry : Entry) → (change entry).domain ≡ entry.domain) where
  abbrev some : Entry → Entry
  some entry = cond (these entry.aid) (change entry) entry

  some_domain : (entry : Entry) → (some entry).domain ≡ entry.domain
  some_domain entry = cond_both (these entry.aid) (change entry) entry (λ (e : Entry). e.domain ≡ entry.domain) (λ _. domain entry) (λ _. refl)

  pub changes_keep : IsOfCard registry
      → ((entry : Entry) → Contains registry.entries entry → these entry.aid ≡ true → IsProperEntry entry → IsProperEntry (change entry))
      → (these ISSUER ≡ true → (entry : Entry) → IsIssuerDomain entry → IsIssuerDomain (change entry)) → IsOfCard (with_entries registry these change)
  changes_keep of proper issuer = record {
    well = entries_changed_well registry some (some_keep these change keeps) some_domain of.well
        (λ entry there.
        (let is = (All-contains (IsWellEntry registry) registry.entries entry of.well.entries there).proper in
        cond_both (these entry.aid) (change entry) entry IsProperEntry (λ hit. proper entry there hit is) (λ missed. is)))
        (λ entry named is. cond_both (these entry.aid) (change entry) entry IsIssuerDomain (λ hit. issuer (ap these (sym named) ∙ hit) entry is) (λ missed. is));
    ascending = entries_changed_ascending registry some (some_keep these change keeps) some_domain of.ascending;
  }

pub life_keeps : LifeKeeps
life_keeps registry aid life of may =
    changes_keep registry (λ other. same_aid other aid) (λ entry. record entry { life = life })
    (record { aid = λ _. refl; file = λ _. refl; privileges = λ _. refl }) (λ _. refl) of
    (λ entry there hit is. proper_with entry is entry.domain life entry.receipts (IfSome-at (entry_named registry aid) entry (member_named registry of entry there aid hit) may.fits) is.receipts)
    (λ hit. absurd (may.other (sym ((same_aid_decides ISSUER aid).0 hit))))
  where
    IfSome-at : (o : Option Entry) (entry : Entry) → o ≡ Some entry → IfSome o (λ e. has_life (is_domain e) life.life ≡ true) → has_life (is_domain entry) life.life ≡ true
    IfSome-at None entry at fits = cc
    IfSome-at (Some e) entry at fits = (let same : e ≡ entry = cc in subst (λ (x : Entry). has_life (is_domain x) life.life ≡ true) same fits)

pub locks_keep : LocksKeep
locks_keep registry these locked of other =
    changes_keep registry these (λ entry. record entry { life = record { life = entry.life.life; locked = locked } })
    (record { aid = λ _. refl; file = λ _. refl; privileges = λ _. refl }) (λ _. refl) of
    (λ entry there hit is. proper_with entry is entry.domain (record { life = entry.life.life; locked = locked }) entry.receipts is.life is.receipts)
    (λ hit. (let clash = sym other ∙ hit in cc))

pub receipts_keep : ReceiptsKeep
receipts_keep registry aid number of most =
    changes_keep registry (λ other. same_aid other aid) (λ entry. record entry { receipts = number })
    (record { aid = λ _. refl; file = λ _. refl; privileges = λ _. refl }) (λ _. refl) of
    (λ entry there hit is. proper_with entry is entry.domain entry.life number is.life most)
    (λ hit entry is. record { domain = is.domain; file = is.file; module_ = is.module_; life = is.life; unlocked = is.unlocked })

-- the life cycle state of the card is no part of it
pub card_life_keeps : CardLifeKeeps
card_life_keeps registry life of =
    let after = with_card_life registry life in
    let owned = all_owned registry after (λ aid is. is) refl refl refl in
    record {
      well = record {
        few_entries = of.well.few_entries;
        few_files = of.well.few_files;
        few_keys = of.well.few_keys;
        few_objects = of.well.few_objects;
        few_pages = of.well.few_pages;
        few_keys_each = of.well.few_keys_each;
        issuer = of.well.issuer;
        factory_file = of.well.factory_file;
        entries = All-weaker (IsWellEntry registry) (IsWellEntry after)
            (λ entry is. record { proper = is.proper; domain = is.domain; line = is.line; loaded = is.loaded }) registry.entries of.well.entries;
        files = All-weaker (IsWellFile registry) (IsWellFile after)
            (λ file is. record { aid = is.aid; apart = is.apart; domain = is.domain; size = is.size }) registry.files of.well.files;
        keys = keys_well (λ _. Unit {0}) registry after owned of.well;
        counters = counters_well (λ _. Unit {0}) registry after owned of.well;
        objects = objects_well (λ _. Unit {0}) registry after owned of.well;
      };
      ascending = record {
        entries = of.ascending.entries;
        files = of.ascending.files;
        keys = of.ascending.keys;
        counters = of.ascending.counters;
        objects = of.ascending.objects;
      };
    }
