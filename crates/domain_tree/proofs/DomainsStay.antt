-- Which things keep their domains where a registry is changed.
use Rattle.std.proofs.Common.{◌≡◌, ◌≢◌, ℕ, Bool, cond, List, Option, None, Some, refl, ap, sym, subst, ◌∙◌}
use Rattle.std.specs.Prelude.{MatchOption, not}
use Rattle.std.specs.Option.{option_map}
use Rattle.std.proofs.lemmas.Bool.{cond_both, not_from_false}
use Rattle.card_types.proofs.AddedThing as added
use Rattle.card_types.proofs.ApplicationsRemoved.{stays_step}
use Rattle.card_types.proofs.MappedEntries.{find_mapped}
use Rattle.card_types.proofs.MovedThing.{step_other}
use Rattle.card_types.proofs.NamedThings.{aid_differs, unfound_kept}
use Rattle.card_types.proofs.RemovedThing as removed
use Rattle.card_types.specs.Aid.{same_aid}
use Rattle.card_types.specs.Registry.{Entry, Registry, domain_of, entry_named}
use Rattle.card_types.specs.RegistryChange.{with_entries, without_applications}
use Rattle.domain_tree.specs.LineLaws.{DomainsAfterApplications, DomainsAfterChange, DomainsAfterEntry, DomainsAfterEntryAdded, DomainsAfterMove}

pub domains_after_entry_added : DomainsAfterEntryAdded
domains_after_entry_added entry before after of is x other =
    subst (λ (r : Registry). domain_of r x ≡ domain_of before x) (sym is.same) (added.other_step entry before after.entries of is.entries x other)

pub domains_after_move : DomainsAfterMove
domains_after_move registry aid domain x other = step_other registry aid domain x other

pub domains_after_entry : DomainsAfterEntry
domains_after_entry registry aid x other = removed.other_step registry aid x other

pub domains_after_applications : DomainsAfterApplications
domains_after_applications registry file x stays = by (entry_named registry x) refl stays
  where
    by : (o : Option Entry) → entry_named registry x ≡ o → MatchOption o (Unit {0}) (λ entry. entry.file ≢ file)
        → domain_of (without_applications registry file) x ≡ domain_of registry x
    by None at _ =
        ap (option_map (λ (e : Entry). e.domain))
        (unfound_kept (λ (e : Entry). e.aid) (λ e. not (same_aid e.file file)) (λ e. same_aid e.aid x) registry.entries at ∙ sym at)
    by (Some entry) at other = stays_step registry file x entry at (not_from_false (same_aid entry.file file) (aid_differs entry.file file other))

module _ (registry : Registry) (these : List ℕ → Bool) (change : Entry → Entry)
    (keeps : (entry : Entry) → ((change entry).aid ≡ entry.aid) × ((change entry).domain ≡ entry.domain)) where
  abbrev some : Entry → Entry
  some entry = cond (these entry.aid) (change entry) entry

  some_aid : (entry : Entry) → (some entry).aid ≡ entry.aid
  some_aid entry = cond_both (these entry.aid) (change entry) entry (λ (e : Entry). e.aid ≡ entry.aid) (λ _. (keeps entry).0) (λ _. refl)

  some_domain : (entry : Entry) → (some entry).domain ≡ entry.domain
  some_domain entry = cond_both (these entry.aid) (change entry) entry (λ (e : Entry). e.domain ≡ entry.domain) (λ _. (keeps entry).1) (λ _. refl)

  steps_alike : (x : List ℕ) → domain_of (with_entries registry these change) x ≡ domain_of registry x
  steps_alike x =
      ap (option_map (λ e. e.domain)) (find_mapped some (λ (e : Entry). same_aid e.aid x) (λ e. ap (λ (n : List ℕ). same_aid n x) (some_aid e)) registry.entries)
      ∙ by (entry_named registry x)
    where
      by : (o : Option Entry) → option_map (λ (e : Entry). e.domain) (option_map some o) ≡ option_map (λ e. e.domain) o
      by None = refl
      by (Some entry) = ap Some (some_domain entry)

pub domains_after_change : DomainsAfterChange
domains_after_change registry these change keeps x = steps_alike registry these change keeps x
