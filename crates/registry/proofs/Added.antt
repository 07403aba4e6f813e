-- What tables say after a thing was added, and why none is.
use Rattle.std.proofs.Common.{◌≡◌, ◌↔◌, inl, inr, ℕ, List, Option, Some, refl, ap, sym, subst, ◌∙◌}
use Rattle.std.specs.Prelude.{IsErrAnd, IsSome, Result, Ok, Err}
use Rattle.std.specs.Option.{option_map}
use Rattle.std.proofs.lemmas.Cmp.{nat_list_cmp_total, on_total}
use Rattle.card_types.specs.Aid.{aid_order, same_aid}
use Rattle.card_types.specs.RegistryChange.{IsChanged, IsEntryAdded, IsFileAdded}
use Rattle.card_types.specs.Search.{IsFirstFree, NoneFree}
use Rattle.card_types.specs.Found.{aid_of}
use Rattle.card_types.specs.Registry as registry
use Rattle.card_types.specs.Represents.{Represents, entry_of, file_of, thing_in}
use Rattle.card_types.specs.Well.{Well}
use Rattle.card_types.specs.declared.found.Found.{Found}
use Rattle.card_types.specs.declared.found.Found.TheVariants as found
use Rattle.card_types.specs.declared.tables.Entry.{Entry}
use Rattle.card_types.specs.declared.tables.LoadFile.{LoadFile}
use Rattle.card_types.specs.declared.tables.Tables.{Tables}
use Rattle.card_types.proofs.ChangeExists.{put_in}
use Rattle.card_types.proofs.ChangedEntries.{entry_changed, keeps_domains_put}
use Rattle.card_types.proofs.ChangedFiles.{file_changed, keeps_files_put}
use Rattle.card_types.proofs.FoundNames.{found_entry_named, found_file_named, none_found_none_named}
use Rattle.card_types.proofs.LeastOfList.{none_fits, sorted_by_name}
use Rattle.card_types.proofs.SameAid.{aid_equal_same, same_aid_decides}
use Rattle.registry.specs.Adding.{AddsEntry, AddsFile, IsAidTaken, NoneHas, PlaceFails}
use Rattle.registry.specs.declared.refusal.AddRefusal.{AddRefusal}
use Rattle.registry.specs.declared.refusal.AddRefusal.TheVariants.{Taken, Full}

-- the first free slot of those that were lent is that of the tables
pub first_free_of : {T : Type 0} (slots_of : Tables → List (Option T)) (before tables : Tables) (slots : List (Option T)) → tables ≡ before → slots ≡ slots_of tables
    → (slot : ℕ) → IsFirstFree slots slot → IsFirstFree (slots_of before) slot
first_free_of {T = T} slots_of before tables slots is lent slot = subst (λ (s : List (Option T)). IsFirstFree s slot) (lent ∙ ap slots_of is)

module _ (page : ℕ → List ℕ) (before : Tables) (said : registry.Registry) (says : Represents page before said) where
  -- what is in a slot is there by its name
  pub taken_by : (thing : Found) (aid : List ℕ) → aid_of before thing ≡ Some aid → IsAidTaken said aid
  taken_by (found.Entry slot) aid at = inl (subst IsSome (sym (found_entry_named page before said says slot aid at).2) refl)
  taken_by (found.File slot) aid at = inr (subst IsSome (sym (found_file_named page before said says slot aid at).2) refl)

  -- nothing is there by a name that no slot has
  pub not_taken : (aid : List ℕ) → NoneHas before aid → IsAidTaken said aid → ⊥
  not_taken aid none (inl there) = (let gone = (none_found_none_named page before said says aid none).0 in let some = subst IsSome gone there in cc)
  not_taken aid none (inr there) = (let gone = (none_found_none_named page before said says aid none).1 in let some = subst IsSome gone there in cc)

  module _ (aid : List ℕ) (full : Type 0) where
    -- the answer says that the AID is taken, or that it is not and all is full, exactly where that is so
    abbrev pub Judged : Result ℕ AddRefusal → Type 0
    Judged result = (result ≡ Err Taken ↔ IsAidTaken said aid) × (result ≡ Err Full ↔ ((IsAidTaken said aid → ⊥) × full))

    -- what is refused is refused for the reason that is answered
    judged : {T : Type 0} (slots : List (Option T)) → (NoneFree slots → full) → (result : Result ℕ AddRefusal) (found : AddRefusal) → IsErrAnd result (λ refusal. refusal ≡ found)
        → PlaceFails before aid slots found → Judged result
    judged slots is_full (Ok slot) found given fails = absurd given
    judged slots is_full (Err refusal) Taken given fails =
        let there = taken_by fails.0 aid fails.1 in
        ((λ is. there, λ taken. ap Err given), (λ is. absurd (cc (is, given)), λ both. absurd (both.0 there)))
    judged slots is_full (Err refusal) Full given fails =
        let none = not_taken aid fails.0 in
        ((λ is. absurd (cc (is, given)), λ taken. absurd (none taken)), (λ is. (none, is_full fails.1), λ both. ap Err given))

    -- where a slot is answered, there is no reason to refuse
    pub placed_so : NoneHas before aid → (full → ⊥) → (slot : ℕ) → Judged (Ok slot)
    placed_so none has_room slot = ((λ is. cc, λ taken. absurd (not_taken aid none taken)), (λ is. cc, λ both. absurd (has_room both.1)))

    -- the same of the tables and slots that a place was looked for in
    module _ {T : Type 0} (slots_of : Tables → List (Option T)) (tables : Tables) (slots : List (Option T)) (is : tables ≡ before) (lent : slots ≡ slots_of tables) where
      pub refused_so : (NoneFree (slots_of before) → full) → (result : Result ℕ AddRefusal) (found : AddRefusal) → IsErrAnd result (λ refusal. refusal ≡ found)
          → PlaceFails tables aid slots found → Judged result
      refused_so is_full result found given fails =
          judged (slots_of before) is_full result found given
          (subst (λ (t : Tables). PlaceFails t aid (slots_of t) found) is (subst (λ (s : List (Option T)). PlaceFails tables aid s found) lent fails))

  module _ (well : Well said) (after : Tables) (slot : ℕ) where
    -- an entry is added
    pub entry_added : (entry domain : Entry) → thing_in before.entries.items entry.domain ≡ Some domain → NoneHas before entry.aid → AddsEntry before after slot entry
        → (added : registry.Registry) × IsEntryAdded (entry_of before.entries.items before.files.items entry) said added × Represents page after added
    entry_added entry domain there none adds =
        let view = entry_of before.entries.items before.files.items in
        let unnamed = (none_found_none_named page before said says entry.aid none).0 in
        let put = put_in (λ (a b : registry.Entry). aid_order a.aid b.aid) (on_total (λ (e : registry.Entry). e.aid) nat_list_cmp_total) (view entry) said.entries
        (sorted_by_name aid_order (λ (e : registry.Entry). e.aid) said.entries says.ascending.entries)
        (λ y among tied. none_fits (λ (e : registry.Entry). same_aid e.aid entry.aid) said.entries unnamed y among ((same_aid_decides y.aid entry.aid).1 (sym (aid_equal_same entry.aid y.aid tied)))) in
        let changed : IsChanged (λ a b. aid_order a.aid b.aid) (option_map view (thing_in before.entries.items slot)) (Some (view entry)) said.entries put.0 = rw adds.free.free put.1 in (
          record said { entries = put.0 },
          record { entries = put.1; same = refl },
          entry_changed page before after said says slot (Some entry) put.0 adds.free.within adds.set
              (keeps_domains_put page before after said says slot well entry domain adds.free.within adds.set adds.free.free there) changed,
        )

    -- an Executable Load File is added
    pub file_added : (file : LoadFile) → NoneHas before file.aid → AddsFile before after slot file
        → (added : registry.Registry) × IsFileAdded (file_of page before.entries.items file) said added × Represents page after added
    file_added file none adds =
        let view = file_of page before.entries.items in
        let unnamed = (none_found_none_named page before said says file.aid none).1 in
        let put = put_in (λ (a b : registry.LoadFile). aid_order a.aid b.aid) (on_total (λ (f : registry.LoadFile). f.aid) nat_list_cmp_total) (view file) said.files
        (sorted_by_name aid_order (λ (f : registry.LoadFile). f.aid) said.files says.ascending.files)
        (λ y among tied. none_fits (λ (f : registry.LoadFile). same_aid f.aid file.aid) said.files unnamed y among ((same_aid_decides y.aid file.aid).1 (sym (aid_equal_same file.aid y.aid tied)))) in
        let changed : IsChanged (λ a b. aid_order a.aid b.aid) (option_map view (thing_in before.files.items slot)) (Some (view file)) said.files put.0 = rw adds.free.free put.1 in (
          record said { files = put.0 },
          record { files = put.1; same = refl },
          file_changed page page before after said says slot (Some file) put.0 adds.free.within adds.set
              (keeps_files_put page page before after said says slot well file adds.set adds.free.free) (λ other f at. refl) changed,
        )
