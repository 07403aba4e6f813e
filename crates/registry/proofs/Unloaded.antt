-- What tables say after the applications that come from an Executable Load File were removed.
use Rattle.std.proofs.Common.{◌≡◌, ◌≢◌, ℕ, ◌==◌, true, List, Option, Some, refl, ap, sym, subst, ◌∙◌}
use Rattle.std.specs.Prelude.{Contains, filter, map, not}
use Rattle.std.specs.List.Sorted.{IsPermutation}
use Rattle.std.proofs.lemmas.Bool.{eq-eqb, eqb-true}
use Rattle.std.proofs.lemmas.Cmp.{nat_list_cmp_total, on_total}
use Rattle.card_check.proofs.CardNames.{file_aid_is}
use Rattle.card_types.proofs.ChangedEntries.{KeepsDomains, entries_alone}
use Rattle.card_types.proofs.ChangedSlot.{same_all}
use Rattle.card_types.proofs.Domains.{domain_aid_is, domain_is_used, file_domain_is_used, key_owner_is_used, loaded_file_is_used, object_owner_is_used, well_entry}
use Rattle.card_types.proofs.FileNames.{one_file_slot}
use Rattle.card_types.proofs.LeastOfList.{sorted_by_name}
use Rattle.card_types.proofs.NamedThings.{sorted_kept}
use Rattle.card_types.proofs.SameAid.{same_aid_decides}
use Rattle.card_types.proofs.Shows.{held_from_used}
use Rattle.card_types.specs.Aid.{aid_order, same_aid}
use Rattle.card_types.specs.Privileges.{has, security_domain}
use Rattle.card_types.specs.Registry as registry
use Rattle.card_types.specs.RegistryChange.{without_applications}
use Rattle.card_types.specs.Represents.{Represents, domain_aid, entry_of, file_aid, things_in, thing_in}
use Rattle.card_types.specs.Well.{Well}
use Rattle.card_types.specs.declared.factory.TheConstants.{FACTORY_FILE}
use Rattle.card_types.specs.declared.tables.Entry.{Entry}
use Rattle.card_types.specs.declared.tables.LoadFile.{LoadFile}
use Rattle.card_types.specs.declared.tables.Tables.{Tables}
use Rattle.registry.specs.Removing.{IsUnloaded, RemovesApplications, entry_file}
use Rattle.registry.proofs.Freed.{left_there, other_stays, used_freed}
use Rattle.registry.proofs.Removed.{same_tests, without_shown}

-- what is in a slot then comes from another file
module _ (before after : Tables) (file : ℕ) (removes : RemovesApplications before after file) where
  left : (slot : ℕ) (entry : Entry) → thing_in after.entries.items slot ≡ Some entry → (thing_in before.entries.items slot ≡ Some entry) × (entry.file ≢ file)
  left slot entry at = left_there entry_file file before.entries.items slot entry (ap (λ (s : List (Option Entry)). thing_in s slot) (sym removes.entries) ∙ at)

  pub unloaded : IsUnloaded after file
  unloaded slot entry at = (left slot entry at).1

module _ (page : ℕ → List ℕ) (before after : Tables) (said : registry.Registry) (says : Represents page before said) (well : Well said) (file : ℕ) (loaded : LoadFile)
    (at : thing_in before.files.items file ≡ Some loaded) (other : file_aid before.files.items file ≢ FACTORY_FILE) (removes : RemovesApplications before after file) where
  abbrev aid : List ℕ
  aid = file_aid before.files.items file

  abbrev view : Entry → registry.Entry
  view = entry_of before.entries.items before.files.items

  -- a domain comes from the factory's file, so it stays
  domain_stays : (slot : ℕ) (domain : Entry) → thing_in before.entries.items slot ≡ Some domain → has security_domain domain.privileges ≡ true
      → domain_aid after.entries.items slot ≡ domain_aid before.entries.items slot
  domain_stays slot domain there is =
      let proper = (well_entry page before said says well slot domain there).proper in
      let from : file_aid before.files.items domain.file ≡ FACTORY_FILE = (same_aid_decides (file_aid before.files.items domain.file) FACTORY_FILE).0 (sym proper.kind ∙ is) in
      let stays = other_stays entry_file file before.entries.items slot domain there (λ same. other (ap (file_aid before.files.items) (sym same) ∙ from)) in
      let then : thing_in after.entries.items slot ≡ Some domain = ap (λ (s : List (Option Entry)). thing_in s slot) removes.entries ∙ stays in
      domain_aid_is after.entries.items slot domain then ∙ sym (domain_aid_is before.entries.items slot domain there)

  keeps : KeepsDomains before after
  keeps = record {
    entries = λ slot entry there.
        (let domain = domain_is_used page before said says well slot entry (left before after file removes slot entry there).0 in domain_stays entry.domain domain.0 domain.1 domain.2);
    files = λ slot f there. (let domain = file_domain_is_used page before said says well slot f there in domain_stays f.domain domain.0 domain.1 domain.2);
    keys = λ slot key there. (let domain = key_owner_is_used page before said says well slot key there in domain_stays key.owner domain.0 domain.1 domain.2);
    objects = λ slot object there. (let domain = object_owner_is_used page before said says well slot object there in domain_stays object.owner domain.0 domain.1 domain.2);
  }

  -- an entry comes from the file with the AID exactly where that is the one in the slot
  file_named : (entry : Entry) → Contains (things_in before.entries.items) entry → same_aid (file_aid before.files.items entry.file) aid ≡ (entry.file == file)
  file_named entry there =
      let held_at = held_from_used before.entries.items entry there in
      let own = loaded_file_is_used page before said says well held_at.0 entry held_at.1 in
      same_tests (same_aid (file_aid before.files.items entry.file) aid) (entry.file == file)
      (λ same. eq-eqb entry.file file
      (one_file_slot page before said says entry.file file own.0 loaded own.1 at
      (sym (file_aid_is before.files.items entry.file own.0 own.1) ∙ (same_aid_decides (file_aid before.files.items entry.file) aid).0 same ∙ file_aid_is before.files.items file loaded at)))
      (λ same. (same_aid_decides (file_aid before.files.items entry.file) aid).1 (ap (file_aid before.files.items) (eqb-true entry.file file same)))

  abbrev rest : List registry.Entry
  rest = (without_applications said aid).entries

  left_entries : things_in after.entries.items ≡ filter (λ entry. not (entry.file == file)) (things_in before.entries.items)
  left_entries = ap (λ (slots : List (Option Entry)). things_in slots) removes.entries ∙ used_freed entry_file file before.entries.items

  shown_before : IsPermutation (map view (things_in after.entries.items)) rest
  shown_before =
      subst (λ (entries : List Entry). IsPermutation (map view entries) rest) (sym left_entries)
      (without_shown (λ a b. aid_order a.aid b.aid) (on_total (λ (e : registry.Entry). e.aid) nat_list_cmp_total) view (λ entry. same_aid entry.file aid) (λ entry. entry.file == file)
      (things_in before.entries.items) said.entries says.entries (sorted_by_name aid_order (λ (e : registry.Entry). e.aid) said.entries says.ascending.entries) file_named)

  pub applications_removed : Represents page after (without_applications said aid)
  applications_removed =
      entries_alone page before after said says removes.life removes.files removes.keys removes.objects keeps rest
      (same_all view (entry_of after.entries.items after.files.items) after.entries.items after.entries.items rest shown_before refl
      (λ slot entry there. rw (keeps.entries slot entry there, removes.files)))
      (sorted_kept (λ (e : registry.Entry). e.aid) (λ entry. not (same_aid entry.file aid)) said.entries says.ascending.entries)
