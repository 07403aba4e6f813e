-- What of a deletion is in use, by slots and by AIDs.
use Rattle.std.proofs.Common.{◌≡◌, ◌≢◌, ◌↔◌, inl, inr, ℕ, ◌<◌, List, [], length, true, Option, None, Some, refl, ap, sym, subst, ◌∙◌, arith}
use Rattle.std.specs.Prelude.{Contains, IsSome, MatchOption, slice_index_or, unwrap_or}
use Rattle.std.specs.Option.{option_map}
use Rattle.std.proofs.lemmas.Bool.{cases_lt}
use Rattle.std.proofs.lemmas.List.{get_or_past}
use Rattle.std.proofs.lemmas.List.Elements.{All-contains}
use Rattle.card_types.proofs.Domains.{domain_aid_is, loaded_file_is_used, well_entry}
use Rattle.card_types.proofs.EntryNames.{entry_in_slot, one_entry_slot, slot_of_entry}
use Rattle.card_types.proofs.FileNames.{one_file_slot}
use Rattle.card_types.proofs.FoundNames.{found_file_named}
use Rattle.card_types.proofs.LeastOfList.{found_fits}
use Rattle.card_types.proofs.Shows.{shows_used}
use Rattle.content_rules.specs.Prelude.{Channel, ComesFrom, HasOthers, HasOthersIn, HasSelected, IsAid, IsDomainNamed, IsFrom, IsLoadDomain, IsLoadNamed, IsLoadedInto, IsSelected, IsSelectedIn, IsWellEntry, IsWellFile, LoadSession, Represents, Volatile, Well, aid_of, channel_at, domain_aid, entry_named, entry_of, file_aid, file_named, file_of, same_aid, thing_in}
use Rattle.card_types.specs.Registry as registry
use Rattle.card_types.specs.declared.found.Found.TheVariants as found
use Rattle.card_types.specs.declared.tables.Entry.{Entry}
use Rattle.card_types.specs.declared.tables.LoadFile.{LoadFile}
use Rattle.card_types.specs.declared.tables.Tables.{Tables}
use Rattle.policy_machine.proofs.FileApart.{file_apart}
use Rattle.policy_machine.specs.declared.channels.TheConstants.{CHANNELS}
use Rattle.content_rules.proofs.DeleteObjectSlots.{from_at}
use Rattle.policy_slots.proofs.FileCharge.{entry_no_file}
use Rattle.policy_slots.specs.declared.live.Live.{Live}
use Rattle.policy_slots.specs.declared.live.LoadName.{LoadName}

-- a channel past the last one is none
pub channel_within : (volatile : Volatile) → length volatile.channels ≡ CHANNELS → (number : ℕ) (P : Channel → Type 0)
    → MatchOption (channel_at volatile number) ⊥ P → number < CHANNELS
channel_within volatile four number P is = elim (cases_lt number (length volatile.channels)) [
  | inl low ↦ omega (arith, low, four)
  | inr high ↦ absurd (subst (λ (o : Option Channel). MatchOption o ⊥ P) (get_or_past volatile.channels number None high) is)
]

-- nothing has no bytes as its AID
aid_some : (aid : List ℕ) → IsAid aid → [] ≡ aid → ⊥
aid_some aid is none = absurd (omega (arith, is.0, ap length none))

module _ (page : ℕ → List ℕ) (tables : Tables) (said : registry.Registry) (says : Represents page tables said) (well : Well said) where
  abbrev Selects : Live → Volatile → Type 0
  Selects live volatile =
      (number : ℕ) → number < CHANNELS → IsSelectedIn tables.entries.items (slice_index_or live.selected number None) (channel_at volatile number)

  aid_in_slot : (slot : ℕ) (entry : Entry) → thing_in tables.entries.items slot ≡ Some entry → IsAid entry.aid
  aid_in_slot slot entry at = (well_entry page tables said says well slot entry at).proper.aid

  -- the domain in a slot by its AID
  pub slot_named : (slot other : ℕ) (entry : Entry) → thing_in tables.entries.items slot ≡ Some entry → domain_aid tables.entries.items other ≡ entry.aid → other ≡ slot
  slot_named slot other entry at same = by (thing_in tables.entries.items other) refl
    where
      by : (o : Option Entry) → thing_in tables.entries.items other ≡ o → other ≡ slot
      by None there =
          absurd (aid_some entry.aid (aid_in_slot slot entry at) (sym (ap (λ (o : Option Entry). unwrap_or (option_map (λ e. e.aid) o) []) there) ∙ same))
      by (Some another) there =
          one_entry_slot page tables said says other slot another entry there at (sym (domain_aid_is tables.entries.items other another there) ∙ same)

  -- an entry of the registry is in a slot, and one in a slot is in the registry
  pub entry_shown : (slot : ℕ) (entry : Entry) → thing_in tables.entries.items slot ≡ Some entry
      → Contains said.entries (entry_of tables.entries.items tables.files.items entry)
  entry_shown slot entry at = (shows_used (entry_of tables.entries.items tables.files.items) tables.entries.items said.entries says.entries).there slot entry at refl

  pub entry_from : (named : registry.Entry) → Contains said.entries named
      → (slot : ℕ) × (entry : Entry) × (thing_in tables.entries.items slot ≡ Some entry) × (entry_of tables.entries.items tables.files.items entry ≡ named)
  entry_from named there =
      let at = (shows_used (entry_of tables.entries.items tables.files.items) tables.entries.items said.entries says.entries).from named there in
      (at.0, at.1, at.2, at.4)

  -- what is in use, of the entry in a slot
  module _ (slot : ℕ) (entry : Entry) (at : thing_in tables.entries.items slot ≡ Some entry) where
    one_entry : (other : Entry) → thing_in tables.entries.items slot ≡ Some other → other ≡ entry
    one_entry other there = cc

    pub selected_named : (live : Live) (volatile : Volatile) → Selects live volatile → length volatile.channels ≡ CHANNELS
        → HasSelected live slot ↔ IsSelected volatile entry.aid
    selected_named live volatile selects four = (
      λ selected.
          (let here = subst (λ (o : Option ℕ). IsSelectedIn tables.entries.items o (channel_at volatile selected.0)) selected.2 (selects selected.0 selected.1) in
          (selected.0, there (channel_at volatile selected.0) here)),
      λ named.
          (let low = channel_within volatile four named.0 (λ channel. channel.selected ≡ entry.aid) named.1 in
          (named.0, low, back (slice_index_or live.selected named.0 None) (channel_at volatile named.0) (selects named.0 low) named.1)),
    )
      where
        there : (channel : Option Channel) → IsSelectedIn tables.entries.items (Some slot) channel → MatchOption channel ⊥ (λ c. c.selected ≡ entry.aid)
        there None is = is
        there (Some channel) is = sym is.2 ∙ ap (λ (e : Entry). e.aid) (one_entry is.0 is.1)

        back : (o : Option ℕ) (channel : Option Channel) → IsSelectedIn tables.entries.items o channel → MatchOption channel ⊥ (λ c. c.selected ≡ entry.aid)
            → o ≡ Some slot
        back None None is named = absurd named
        back None (Some channel) is named = absurd is
        back (Some other) None is named = absurd named
        back (Some other) (Some channel) is named = ap Some (one_entry_slot page tables said says other slot is.0 entry is.1 at (is.2 ∙ named))

    pub loaded_named : (live : Live) (volatile : Volatile) → IsLoadNamed tables.entries.items live.load volatile.load
        → IsLoadDomain live slot ↔ IsLoadedInto volatile entry.aid
    loaded_named live volatile named = by live.load volatile.load named
      where
        by : (name : Option LoadName) (load : Option LoadSession) → IsLoadNamed tables.entries.items name load
            → MatchOption name ⊥ (λ n. n.domain ≡ slot) ↔ MatchOption load ⊥ (λ l. l.domain ≡ entry.aid)
        by None None is = (λ none. none, λ none. none)
        by None (Some load) is = absurd is
        by (Some name) None is = absurd is
        by (Some name) (Some load) is = (
          λ same. sym is.2 ∙ ap (domain_aid tables.entries.items) same ∙ domain_aid_is tables.entries.items slot entry at,
          λ same. slot_named slot name.domain entry at (is.2 ∙ same),
        )

    others_to : HasOthersIn tables slot → HasOthers said entry.aid
    others_to (inl (other, another, apart, there, within)) = inl (
      entry_of tables.entries.items tables.files.items another,
      entry_shown other another there,
      ap (domain_aid tables.entries.items) within ∙ domain_aid_is tables.entries.items slot entry at,
      λ same. apart (one_entry_slot page tables said says other slot another entry there at same),
    )
    others_to (inr (other, file, there, within)) = inr (
      file_of page tables.entries.items file,
      (shows_used (file_of page tables.entries.items) tables.files.items said.files says.files).there other file there refl,
      ap (domain_aid tables.entries.items) within ∙ domain_aid_is tables.entries.items slot entry at,
    )

    others_back : HasOthers said entry.aid → HasOthersIn tables slot
    others_back (inl (named, there, within, apart)) =
        let from = entry_from named there in
        let domain : domain_aid tables.entries.items from.1.domain ≡ entry.aid = ap (λ (e : registry.Entry). e.domain) from.3 ∙ within in
        inl (
          from.0,
          from.1,
          (λ same.
              (let one = one_entry from.1 (ap (thing_in tables.entries.items) (sym same) ∙ from.2) in
              apart (sym (ap (λ (e : registry.Entry). e.aid) from.3) ∙ ap (λ (e : Entry). e.aid) one))),
          from.2,
          slot_named slot from.1.domain entry at domain,
        )
    others_back (inr (named, there, within)) =
        let from = (shows_used (file_of page tables.entries.items) tables.files.items said.files says.files).from named there in
        let domain : domain_aid tables.entries.items from.1.domain ≡ entry.aid = ap (λ (f : registry.LoadFile). f.domain) from.4 ∙ within in
        inr (from.0, from.1, from.2, slot_named slot from.1.domain entry at domain)

    pub others_named : HasOthersIn tables slot ↔ HasOthers said entry.aid
    others_named = (others_to, others_back)

  -- an Executable Load File is not in use
  module _ (slot : ℕ) (aid : List ℕ) (at : aid_of tables (found.File slot) ≡ Some aid) where
    no_entry : entry_named said aid ≡ None
    no_entry = (let file = found_file_named page tables said says slot aid at in file_apart said well aid _ file.2)

    no_domain : IsDomainNamed said aid → ⊥
    no_domain domain = subst (λ (o : Option registry.Entry). MatchOption o ⊥ (λ entry. registry.is_domain entry ≡ true)) no_entry domain

    unused_slot : (other : ℕ) (entry : Entry) → thing_in tables.entries.items other ≡ Some entry → entry.aid ≢ aid
    unused_slot other entry there same =
        let named = entry_in_slot page tables said says other entry there in
        let none = ap (entry_named said) same ∙ no_entry in
        let clash = sym named ∙ none in
        cc

    pub file_unselected : (live : Live) (volatile : Volatile) → Selects live volatile → length volatile.channels ≡ CHANNELS → IsSelected volatile aid → ⊥
    file_unselected live volatile selects four (number, named) =
        let low = channel_within volatile four number (λ channel. channel.selected ≡ aid) named in
        by (slice_index_or live.selected number None) (channel_at volatile number) (selects number low) named
      where
        by : (o : Option ℕ) (channel : Option Channel) → IsSelectedIn tables.entries.items o channel → MatchOption channel ⊥ (λ c. c.selected ≡ aid) → ⊥
        by None None is same = same
        by None (Some channel) is same = is
        by (Some other) None is same = same
        by (Some other) (Some channel) is same = unused_slot other is.0 is.1 (is.2 ∙ same)

    file_aid_some : IsAid aid
    file_aid_some =
        let file = found_file_named page tables said says slot aid at in
        let there = found_fits (λ (f : registry.LoadFile). same_aid f.aid aid) said.files _ file.2 in
        let same : file.0.aid ≡ aid = cc in
        subst IsAid same (All-contains (IsWellFile said) said.files _ well.files there.0).aid

    pub file_unloaded : (live : Live) (volatile : Volatile) → IsLoadNamed tables.entries.items live.load volatile.load → IsLoadedInto volatile aid → ⊥
    file_unloaded live volatile named into = by live.load volatile.load named into
      where
        none_there : (other : ℕ) → domain_aid tables.entries.items other ≡ aid → ⊥
        none_there other same = by_slot (thing_in tables.entries.items other) refl
          where
            by_slot : (o : Option Entry) → thing_in tables.entries.items other ≡ o → ⊥
            by_slot None there = aid_some aid file_aid_some (sym (ap (λ (o : Option Entry). unwrap_or (option_map (λ e. e.aid) o) []) there) ∙ same)
            by_slot (Some entry) there = unused_slot other entry there (sym (domain_aid_is tables.entries.items other entry there) ∙ same)

        by : (name : Option LoadName) (load : Option LoadSession) → IsLoadNamed tables.entries.items name load → MatchOption load ⊥ (λ l. l.domain ≡ aid) → ⊥
        by None None is same = same
        by None (Some load) is same = is
        by (Some name) None is same = same
        by (Some name) (Some load) is same = none_there name.domain (is.2 ∙ same)

    pub file_alone : HasOthers said aid → ⊥
    file_alone (inl (named, there, within, apart)) =
        no_domain (subst (IsDomainNamed said) within (All-contains (IsWellEntry said) said.entries named well.entries there).domain)
    file_alone (inr (named, there, within)) =
        no_domain (subst (IsDomainNamed said) within (All-contains (IsWellFile said) said.files named well.files there).domain)

  -- what comes from an Executable Load File, by slots and by AIDs
  module _ (slot : ℕ) (aid : List ℕ) (at : aid_of tables (found.File slot) ≡ Some aid) where
    file_there : (file : LoadFile) × (thing_in tables.files.items slot ≡ Some file) × (file.aid ≡ aid)
    file_there = (let file = found_file_named page tables said says slot aid at in (file.0, file.1, cc))

    file_aid_is : (other : ℕ) (file : LoadFile) → thing_in tables.files.items other ≡ Some file → file_aid tables.files.items other ≡ file.aid
    file_aid_is other file there = ap (λ (o : Option LoadFile). unwrap_or (option_map (λ f. f.aid) o) []) there

    pub from_named : (other : ℕ) (entry : Entry) → thing_in tables.entries.items other ≡ Some entry → entry.file ≡ slot → ComesFrom said aid entry.aid
    from_named other entry there from =
        let file = file_there in
        subst (λ (o : Option registry.Entry). MatchOption o ⊥ (λ e. e.file ≡ aid)) (sym (entry_in_slot page tables said says other entry there))
        (ap (file_aid tables.files.items) from ∙ file_aid_is slot file.0 file.1 ∙ file.2)

    pub from_slots : (named : List ℕ) → ComesFrom said aid named
        → (other : ℕ) × (entry : Entry) × (thing_in tables.entries.items other ≡ Some entry) × (entry.aid ≡ named) × IsFrom tables slot other
    from_slots named comes = by (entry_named said named) refl comes
      where
        by : (o : Option registry.Entry) → entry_named said named ≡ o → MatchOption o ⊥ (λ e. e.file ≡ aid)
            → (other : ℕ) × (entry : Entry) × (thing_in tables.entries.items other ≡ Some entry) × (entry.aid ≡ named) × IsFrom tables slot other
        by None is from = absurd from
        by (Some e) is from =
            (let there = slot_of_entry page tables said says named e is in
            let file = file_there in
            let loaded = loaded_file_is_used page tables said says well there.0 there.1 there.2 in
            let same : loaded.0.aid ≡ file.0.aid
            = sym (file_aid_is there.1.file loaded.0 loaded.1) ∙ ap (λ (x : registry.Entry). x.file) there.3 ∙ from ∙ sym file.2 in (
              there.0,
              there.1,
              there.2,
              there.4,
              from_at tables slot there.0 there.1 there.2 (one_file_slot page tables said says there.1.file slot loaded.0 file.0 loaded.1 file.1 same),
            ))

  -- nothing comes from an entry
  pub entry_no_source : (slot : ℕ) (aid : List ℕ) → aid_of tables (found.Entry slot) ≡ Some aid → (named : List ℕ) → ComesFrom said aid named → ⊥
  entry_no_source slot aid at named comes = by (entry_named said named) refl comes
    where
      by : (o : Option registry.Entry) → entry_named said named ≡ o → MatchOption o ⊥ (λ e. e.file ≡ aid) → ⊥
      by None is from = from
      by (Some e) is from =
          (let there = found_fits (λ (x : registry.Entry). same_aid x.aid named) said.entries e is in
          let loaded = (All-contains (IsWellEntry said) said.entries e well.entries there.0).loaded in
          let some : IsSome (file_named said aid) = subst (λ (a : List ℕ). IsSome (file_named said a)) from loaded in
          let none = entry_no_file page tables said says aid well slot at in
          let clash = subst IsSome none some in
          cc)
