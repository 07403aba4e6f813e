-- What tables say after a change of one load file.
use Rattle.std.proofs.Common.{◌≡◌, ◌≢◌, inl, inr, ℕ, ◌<◌, List, [], length, Option, None, Some, refl, ap, sym, ◌∙◌}
use Rattle.std.specs.Prelude.{unwrap_or}
use Rattle.std.specs.Option.{option_map}
use Rattle.std.proofs.lemmas.Bool.{cases_eq}
use Rattle.std.proofs.lemmas.Cmp.{nat_list_cmp_total, on_total}
use Rattle.std.proofs.lemmas.List.{get_or-set_other, get_or-set_same}
use Rattle.card_types.specs.Aid.{aid_order}
use Rattle.card_types.specs.RegistryChange.{IsChanged}
use Rattle.card_types.specs.Registry as registry
use Rattle.card_types.specs.Represents.{Represents, counter_of, entry_of, file_aid, file_of, keeps_counter, key_of, object_of, thing_in}
use Rattle.card_types.specs.SlotChange.{SetsFile}
use Rattle.card_types.specs.Well.{Well}
use Rattle.card_types.specs.declared.tables.Entry.{Entry}
use Rattle.card_types.specs.declared.tables.LoadFile.{LoadFile}
use Rattle.card_types.specs.declared.tables.Tables.{Tables}
use Rattle.card_types.proofs.ChangedSlot.{changed_all, same_all, same_slots}
use Rattle.card_types.proofs.Domains.{loaded_file_is_used}
use Rattle.card_types.proofs.LeastOfList.{names_sorted}

-- the slots of the files that entries name have the same AIDs
abbrev pub KeepsFiles : Tables → Tables → Type 0
KeepsFiles before after = (slot : ℕ) (entry : Entry) → thing_in before.entries.items slot ≡ Some entry → file_aid after.files.items entry.file ≡ file_aid before.files.items entry.file

-- the pages hold what they held for the files that were there
abbrev pub KeepsPages : (ℕ → List ℕ) → (ℕ → List ℕ) → Tables → Type 0
KeepsPages page page' before =
    (slot : ℕ) (file : LoadFile) → thing_in before.files.items slot ≡ Some file → file_of page' before.entries.items file ≡ file_of page before.entries.items file

module _ (page page' : ℕ → List ℕ) (before after : Tables) (said : registry.Registry) (says : Represents page before said) (slot : ℕ) where
  -- the load files are those with that one change
  pub file_changed : (file : Option LoadFile) (files : List registry.LoadFile)
      → slot < length before.files.items → SetsFile before after slot file → KeepsFiles before after → KeepsPages page page' before
      → IsChanged (λ x y. aid_order x.aid y.aid) (option_map (file_of page' before.entries.items) (thing_in before.files.items slot))
      (option_map (file_of page' before.entries.items) file) said.files files
      → Represents page' after (record said { files = files })
  file_changed file files within set keeps pages changed = record {
    life = set.life ∙ says.life;
    entries = same_all (entry_of before.entries.items before.files.items) (entry_of after.entries.items after.files.items) before.entries.items after.entries.items said.entries says.entries set.entries
        (λ other e at. rw (set.entries, keeps other e at));
    files = changed_all (file_of page' before.entries.items) (file_of page' after.entries.items) before.files.items after.files.items slot file
        (λ x y. aid_order x.aid y.aid) (on_total (λ (f : registry.LoadFile). f.aid) nat_list_cmp_total) said.files files
        (same_all (file_of page before.entries.items) (file_of page' before.entries.items) before.files.items before.files.items said.files says.files refl pages)
        within set.files (λ other f at. rw set.entries) changed;
    keys = same_all (key_of before.entries.items) (key_of after.entries.items) before.keys.items after.keys.items said.keys says.keys set.keys
        (λ other key at. rw set.entries);
    counters = same_slots (counter_of before.entries.items) (counter_of after.entries.items) keeps_counter before.keys.items after.keys.items said.counters says.counters set.keys
        (λ other key at. rw set.entries);
    objects = same_all (object_of before.entries.items) (object_of after.entries.items) before.objects.items after.objects.items said.objects says.objects set.objects
        (λ other object at. rw set.entries);
    ascending = record {
      entries = says.ascending.entries;
      files = names_sorted aid_order (λ (f : registry.LoadFile). f.aid) files changed.ascending;
      keys = says.ascending.keys;
      counters = says.ascending.counters;
      objects = says.ascending.objects;
    };
  }

  other_file : (file : Option LoadFile) → SetsFile before after slot file → (other : ℕ) → other ≢ slot → file_aid after.files.items other ≡ file_aid before.files.items other
  other_file file set other apart =
      ap (λ (o : Option LoadFile). unwrap_or (option_map (λ f. f.aid) o) [])
      (ap (λ (fs : List (Option LoadFile)). thing_in fs other) set.files ∙ get_or-set_other before.files.items slot other file None apart)

  -- a file in a slot that was free
  pub keeps_files_put : Well said → (file : LoadFile) → SetsFile before after slot (Some file) → thing_in before.files.items slot ≡ None → KeepsFiles before after
  keeps_files_put well file set free s entry at =
      let used = loaded_file_is_used page before said says well s entry at in
      other_file (Some file) set entry.file (λ same. (let none = ap (thing_in before.files.items) same in let there = used.1 in cc))

  -- a file in place of one with its AID
  pub keeps_files_replaced : (was file : LoadFile) → slot < length before.files.items → SetsFile before after slot (Some file)
      → thing_in before.files.items slot ≡ Some was → file.aid ≡ was.aid → KeepsFiles before after
  keeps_files_replaced was file within set at alike s entry there = elim (cases_eq entry.file slot) [
    | inl same ↦
        (let aid = λ (fs : List (Option LoadFile)) (n : ℕ). file_aid fs n in
        let here : thing_in after.files.items slot ≡ Some file = ap (λ (fs : List (Option LoadFile)). thing_in fs slot) set.files ∙ get_or-set_same before.files.items slot (Some file) None within in
        ap (aid after.files.items) same ∙ ap (λ (o : Option LoadFile). unwrap_or (option_map (λ f. f.aid) o) []) here ∙ alike
        ∙ sym (ap (λ (o : Option LoadFile). unwrap_or (option_map (λ f. f.aid) o) []) at) ∙ ap (aid before.files.items) (sym same))
    | inr other ↦ other_file (Some file) set entry.file other
  ]

  -- a file taken out that no entry names
  pub keeps_files_removed : SetsFile before after slot None → ((s : ℕ) (entry : Entry) → thing_in before.entries.items s ≡ Some entry → entry.file ≢ slot) → KeepsFiles before after
  keeps_files_removed set none s entry at = other_file None set entry.file (none s entry at)
