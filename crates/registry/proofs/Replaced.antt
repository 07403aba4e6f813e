-- What tables say after one thing was changed in its slot.
use Rattle.std.proofs.Common.{◌≡◌, ℕ, List, [], Option, None, Some, refl, ap, sym, subst, ◌∙◌}
use Rattle.std.specs.Prelude.{Contains, IsSome, unwrap_or}
use Rattle.std.specs.Option.{option_map}
use Rattle.card_types.specs.Aid.{aid_order, same_aid}
use Rattle.card_types.specs.Found.{aid_of}
use Rattle.card_types.specs.RegistryChange.{IsChanged, IsRemoved, IsReplaced, with_entries, with_thing_in_domain, without_file}
use Rattle.card_types.specs.Registry as registry
use Rattle.card_types.specs.Registry.{entry_named}
use Rattle.card_types.specs.Represents.{Represents, domain_aid, entry_of, file_aid, file_of, thing_in}
use Rattle.card_types.specs.SlotChange.{SetsEntry, SetsFile}
use Rattle.card_types.specs.Well.{IsWellFile, Well}
use Rattle.card_types.specs.declared.found.Found.TheVariants as found
use Rattle.card_types.specs.declared.tables.Entry.{Entry}
use Rattle.card_types.specs.declared.tables.LoadFile.{LoadFile}
use Rattle.card_types.specs.declared.tables.Tables.{Tables}
use Rattle.std.proofs.lemmas.List.Elements.{All-contains}
use Rattle.card_types.proofs.ChangedEntries.{entry_changed, keeps_domains_replaced}
use Rattle.card_types.proofs.ChangedFiles.{file_changed, keeps_files_removed, keeps_files_replaced}
use Rattle.card_types.proofs.ChangedNames.{none_changed, removed_named, replaced_named}
use Rattle.card_types.proofs.Domains.{domain_aid_is}
use Rattle.card_types.proofs.DrawnCounter.{held_within}
use Rattle.card_types.proofs.EntryNames.{entry_in_slot}
use Rattle.card_types.proofs.LeastOfList.{none_fits}
use Rattle.card_types.proofs.SameAid.{same_aid_decides}
use Rattle.card_types.proofs.Shows.{shows_used}
use Rattle.registry.specs.Removing.{IsUnloaded}

-- what a used slot holds
pub thing_of : {T : Type 0} (o : Option T) → IsSome o → (thing : T) × (o ≡ Some thing)
thing_of None some = cc
thing_of (Some thing) some = (thing, refl)

-- what is so of slots that were lent is so of those of the tables
pub of_lent : {T : Type 0} (P : List (Option T) → Type 0) (slots_of : Tables → List (Option T)) (before tables : Tables) (slots : List (Option T)) → tables ≡ before → slots ≡ slots_of tables → P slots → P (slots_of before)
of_lent P slots_of before tables slots is lent = subst P (lent ∙ ap slots_of is)

module _ (page : ℕ → List ℕ) (before after : Tables) (said : registry.Registry) (says : Represents page before said) (slot : ℕ) where
  module _ (entry : Entry) (at : thing_in before.entries.items slot ≡ Some entry) where
    abbrev view : Entry → registry.Entry
    view e = entry_of before.entries.items before.files.items e

    among_entries : Contains said.entries (view entry)
    among_entries = (shows_used (entry_of before.entries.items before.files.items) before.entries.items said.entries says.entries).there slot entry at refl

    -- the entry is another, with the same AID
    pub entry_replaced : (new : Entry) (change : registry.Entry → registry.Entry) → ((e : registry.Entry) → (change e).aid ≡ e.aid) → new.aid ≡ entry.aid
        → entry_of before.entries.items before.files.items new ≡ change (entry_of before.entries.items before.files.items entry) → SetsEntry before after slot (Some new)
        → Represents page after (with_entries said (λ other. same_aid other (domain_aid before.entries.items slot)) change)
    entry_replaced new change kept alike is set =
        let aid = domain_aid before.entries.items slot in
        let within = held_within before.entries.items slot entry at in
        let entries = (with_entries said (λ other. same_aid other aid) change).entries in
        let replaced : IsReplaced (λ a b. aid_order a.aid b.aid) (view entry) (change (view entry)) said.entries entries =
        replaced_named (λ (e : registry.Entry). e.aid) aid change kept (view entry) said.entries (sym (domain_aid_is before.entries.items slot entry at)) says.ascending.entries among_entries in
        let changed : IsChanged (λ a b. aid_order a.aid b.aid) (option_map view (thing_in before.entries.items slot)) (Some (view new)) said.entries entries =
        subst (λ (o : Option Entry). IsChanged (λ a b. aid_order a.aid b.aid) (option_map view o) (Some (view new)) said.entries entries) (sym at)
        (subst (λ (e : registry.Entry). IsReplaced (λ a b. aid_order a.aid b.aid) (view entry) e said.entries entries) (sym is) replaced) in
        entry_changed page before after said says slot (Some new) entries within set (keeps_domains_replaced page before after said says slot entry new within set at alike) changed

    -- no Executable Load File has its AID
    no_file_too : Well said → (file : registry.LoadFile) → Contains said.files file → file.aid ≡ entry.aid → ⊥
    no_file_too well file there alike =
        let apart = (All-contains (IsWellFile said) said.files file well.files there).apart in
        let named = entry_in_slot page before said says slot entry at in
        let none : entry_named said entry.aid ≡ None = subst (λ (aid : List ℕ). entry_named said aid ≡ None) alike apart in
        cc

    -- the entry is in another domain
    pub entry_moved : Well said → (name : List ℕ) → aid_of before (found.Entry slot) ≡ Some name → (domain : ℕ) → SetsEntry before after slot (Some (record entry { domain = domain }))
        → Represents page after (with_thing_in_domain said name (domain_aid before.entries.items domain))
    entry_moved well name named domain set =
        let own = ap (option_map (λ (e : Entry). e.aid)) at in
        let same : entry.aid ≡ name = cc (own, named) in
        let to = domain_aid before.entries.items domain in
        let change : registry.Entry → registry.Entry = λ e. record e { domain = to } in
        let moves = entry_replaced (record entry { domain = domain }) change (λ e. refl) refl refl set in
        let here : Represents page after (with_entries said (λ other. same_aid other entry.aid) change) =
        subst (λ (a : List ℕ). Represents page after (with_entries said (λ other. same_aid other a) change)) (domain_aid_is before.entries.items slot entry at) moves in
        subst (λ (a : List ℕ). Represents page after (with_thing_in_domain said a to)) same
        (subst (λ (files : List registry.LoadFile). Represents page after (record (with_entries said (λ other. same_aid other entry.aid) change) { files = files }))
        (sym (none_changed (λ (f : registry.LoadFile). f.aid) entry.aid (λ file. record file { domain = to }) said.files (no_file_too well))) here)

  -- the same of an entry in slots that were lent
  pub lent_replaced : (tables : Tables) (slots : List (Option Entry)) → tables ≡ before → slots ≡ tables.entries.items → (entry : Entry) → thing_in slots slot ≡ Some entry
      → (new : Entry) (change : registry.Entry → registry.Entry) → ((e : registry.Entry) → (change e).aid ≡ e.aid) → new.aid ≡ entry.aid
      → entry_of before.entries.items before.files.items new ≡ change (entry_of before.entries.items before.files.items entry) → SetsEntry before after slot (Some new)
      → Represents page after (with_entries said (λ other. same_aid other (domain_aid before.entries.items slot)) change)
  lent_replaced tables slots is lent entry there = entry_replaced entry (of_lent (λ (s : List (Option Entry)). thing_in s slot ≡ Some entry) (λ (t : Tables). t.entries.items) before tables slots is lent there)

  module _ (file : LoadFile) (at : thing_in before.files.items slot ≡ Some file) where
    abbrev file_view : LoadFile → registry.LoadFile
    file_view f = file_of page before.entries.items f

    among_files : Contains said.files (file_view file)
    among_files = (shows_used (file_of page before.entries.items) before.files.items said.files says.files).there slot file at refl

    -- no entry has its AID
    no_entry_too : Well said → (entry : registry.Entry) → Contains said.entries entry → entry.aid ≡ file.aid → ⊥
    no_entry_too well entry there alike =
        let apart = (All-contains (IsWellFile said) said.files (file_view file) well.files among_files).apart in
        none_fits (λ (e : registry.Entry). same_aid e.aid file.aid) said.entries apart entry there ((same_aid_decides entry.aid file.aid).1 alike)

    -- the file is in another domain
    pub file_moved : Well said → (name : List ℕ) → aid_of before (found.File slot) ≡ Some name → (domain : ℕ) → SetsFile before after slot (Some (record file { domain = domain }))
        → Represents page after (with_thing_in_domain said name (domain_aid before.entries.items domain))
    file_moved well name named domain set =
        let own = ap (option_map (λ (f : LoadFile). f.aid)) at in
        let same : file.aid ≡ name = cc (own, named) in
        let to = domain_aid before.entries.items domain in
        let new : LoadFile = record file { domain = domain } in
        let within = held_within before.files.items slot file at in
        let change : registry.LoadFile → registry.LoadFile = λ f. record f { domain = to } in
        let files = (with_thing_in_domain said file.aid to).files in
        let replaced : IsReplaced (λ a b. aid_order a.aid b.aid) (file_view file) (file_view new) said.files files =
        replaced_named (λ (f : registry.LoadFile). f.aid) file.aid change (λ f. refl) (file_view file) said.files refl says.ascending.files among_files in
        let changed : IsChanged (λ a b. aid_order a.aid b.aid) (option_map file_view (thing_in before.files.items slot)) (Some (file_view new)) said.files files = rw at replaced in
        let here = file_changed page page before after said says slot (Some new) files within set
        (keeps_files_replaced page page before after said says slot file new within set at refl) (λ other f there. refl) changed in
        subst (λ (a : List ℕ). Represents page after (with_thing_in_domain said a to)) same
        (subst (λ (entries : List registry.Entry). Represents page after (record said { entries = entries; files = files }))
        (sym (none_changed (λ (e : registry.Entry). e.aid) file.aid (λ entry. record entry { domain = to }) said.entries (no_entry_too well))) here)

    -- the file is gone
    pub file_removed : IsUnloaded before slot → SetsFile before after slot None → Represents page after (without_file said (file_aid before.files.items slot))
    file_removed unloaded set =
        let within = held_within before.files.items slot file at in
        let aid = file_aid before.files.items slot in
        let files = (without_file said aid).files in
        let named : file.aid ≡ aid = sym (ap (λ (o : Option LoadFile). unwrap_or (option_map (λ f. f.aid) o) []) at) in
        let removed : IsRemoved (λ a b. aid_order a.aid b.aid) (file_view file) said.files files =
        removed_named (λ (f : registry.LoadFile). f.aid) aid (file_view file) said.files named says.ascending.files among_files in
        let changed : IsChanged (λ a b. aid_order a.aid b.aid) (option_map file_view (thing_in before.files.items slot)) None said.files files =
        subst (λ (o : Option LoadFile). IsChanged (λ a b. aid_order a.aid b.aid) (option_map file_view o) None said.files files) (sym at) removed in
        file_changed page page before after said says slot None files within set (keeps_files_removed page page before after said says slot set unloaded) (λ other f there. refl) changed
