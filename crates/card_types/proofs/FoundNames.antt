-- What searches of slots find, by names.
use Rattle.std.proofs.Common.{◌≡◌, ◌≢◌, ℕ, zero, suc, ◌<◌, true, not, ◌&&◌, List, Option, None, Some, ap, sym, subst, ◌∙◌, arith}
use Rattle.std.specs.Prelude.{find}
use Rattle.std.specs.Option.{option_map}
use Rattle.std.proofs.lemmas.Bool.{and_from, and_parts, false_from_ne_true, not_from_false, not-true}
use Rattle.std.specs.declared.cmp.Ordering.TheVariants.{Greater}
use Rattle.card_types.specs.Aid.{aid_order, same_aid}
use Rattle.card_types.specs.Search.{is_above}
use Rattle.card_types.specs.Found.{IsNext, NoneFollows, aid_of}
use Rattle.card_types.specs.Registry as registry
use Rattle.card_types.specs.Registry.{entry_named, file_named}
use Rattle.card_types.specs.Represents.{Represents, entry_of, file_of, thing_in}
use Rattle.card_types.specs.declared.factory.TheConstants.{ISSUER}
use Rattle.card_types.specs.declared.found.Found.{Found}
use Rattle.card_types.specs.declared.found.Found.TheVariants as found
use Rattle.card_types.specs.declared.found.Kind.TheVariants.{Entries, Files}
use Rattle.card_types.specs.declared.tables.Entry.{Entry}
use Rattle.card_types.specs.declared.tables.LoadFile.{LoadFile}
use Rattle.card_types.specs.declared.tables.Tables.{Tables}
use Rattle.card_types.proofs.EntryNames.{entry_in_slot, entry_unnamed, least_entry, no_entry, one_entry_slot}
use Rattle.card_types.proofs.FileNames.{file_in_slot, file_unnamed, least_file, no_file}
use Rattle.card_types.proofs.Next.{above_from, held_from_name, to_above}
use Rattle.card_types.proofs.SameAid.{same_aid_decides}

module _ (page : ℕ → List ℕ) (tables : Tables) (said : registry.Registry) (says : Represents page tables said) where
  -- what is found by its AID is what has that name
  pub found_entry_named : (slot : ℕ) (aid : List ℕ) → aid_of tables (found.Entry slot) ≡ Some aid
      → (entry : Entry) × (thing_in tables.entries.items slot ≡ Some entry) × (entry_named said aid ≡ Some (entry_of tables.entries.items tables.files.items entry))
  found_entry_named slot aid named =
      let entry = held_from_name (λ (e : Entry). e.aid) tables.entries.items slot aid named in
      (entry.0, entry.1, subst (λ (a : List ℕ). entry_named said a ≡ Some (entry_of tables.entries.items tables.files.items entry.0)) entry.2 (entry_in_slot page tables said says slot entry.0 entry.1))

  pub found_file_named : (slot : ℕ) (aid : List ℕ) → aid_of tables (found.File slot) ≡ Some aid
      → (file : LoadFile) × (thing_in tables.files.items slot ≡ Some file) × (file_named said aid ≡ Some (file_of page tables.entries.items file))
  found_file_named slot aid named =
      let file = held_from_name (λ (f : LoadFile). f.aid) tables.files.items slot aid named in
      (file.0, file.1, subst (λ (a : List ℕ). file_named said a ≡ Some (file_of page tables.entries.items file.0)) file.2 (file_in_slot page tables said says slot file.0 file.1))

  pub none_found_none_named : (aid : List ℕ) → ((thing : Found) → aid_of tables thing ≢ Some aid) → (entry_named said aid ≡ None) × (file_named said aid ≡ None)
  none_found_none_named aid none = (
    entry_unnamed page tables said says aid (λ slot entry at same. none (found.Entry slot) (ap (option_map (λ (e : Entry). e.aid)) at ∙ ap Some ((same_aid_decides entry.aid aid).0 same))),
    file_unnamed page tables said says aid (λ slot file at same. none (found.File slot) (ap (option_map (λ (f : LoadFile). f.aid)) at ∙ ap Some ((same_aid_decides file.aid aid).0 same))),
  )

  -- the next load file is the first above the AID
  pub next_file_named : (after : Option (List ℕ)) (slot : ℕ) → IsNext tables Files after (found.File slot)
      → (file : LoadFile) × (thing_in tables.files.items slot ≡ Some file) × (find (λ f. is_above after f.aid) said.files ≡ Some (file_of page tables.entries.items file))
  next_file_named after slot next =
      let file = held_from_name (λ (f : LoadFile). f.aid) tables.files.items slot next.aid next.follows.named in (
        file.0,
        file.1,
        least_file page tables said says (λ f. is_above after f.aid) slot file.0 (record {
          at = file.1;
          fitting = ap (is_above after) file.2 ∙ to_above after next.aid next.follows.above;
          least = λ other another at fits.
              subst (λ (a : List ℕ). aid_order a another.aid ≢ Greater) (sym file.2)
              (next.least (found.File other) another.aid (record { of = tt; named = ap (option_map (λ (f : LoadFile). f.aid)) at; above = above_from after another.aid fits }));
        }),
      )

  pub no_next_file : (after : Option (List ℕ)) → NoneFollows tables Files after → find (λ f. is_above after f.aid) said.files ≡ None
  no_next_file after none = no_file page tables said says (λ f. is_above after f.aid) (λ slot file at fits.
      none (found.File slot) file.aid (record { of = tt; named = ap (option_map (λ (f : LoadFile). f.aid)) at; above = above_from after file.aid fits }))

  -- where the Issuer Security Domain is in slot 0, the next of the other entries is the first of them above the AID
  module _ (issuer : Entry) (first : thing_in tables.entries.items 0 ≡ Some issuer) (named : issuer.aid ≡ ISSUER) where
    other_entry : (slot : ℕ) (entry : Entry) → thing_in tables.entries.items slot ≡ Some entry → 0 < slot → not (same_aid entry.aid ISSUER) ≡ true
    other_entry slot entry at above =
        not_from_false (same_aid entry.aid ISSUER) (false_from_ne_true (same_aid entry.aid ISSUER) (λ same.
        (let zero_slot = one_entry_slot page tables said says slot 0 entry issuer at first ((same_aid_decides entry.aid ISSUER).0 same ∙ sym named) in
        omega arith)))

    other_slot : (slot : ℕ) (entry : Entry) → thing_in tables.entries.items slot ≡ Some entry → not (same_aid entry.aid ISSUER) ≡ true → 0 < slot
    other_slot zero entry at other =
        (let alike : issuer ≡ entry = cc in
        let same = (same_aid_decides entry.aid ISSUER).1 (ap (λ (e : Entry). e.aid) (sym alike) ∙ named) in
        let differs = not-true (same_aid entry.aid ISSUER) other in cc)
    other_slot (suc slot) entry at other = omega arith

    pub next_entry_named : (after : Option (List ℕ)) (slot : ℕ) → IsNext tables Entries after (found.Entry slot)
        → (entry : Entry) × (thing_in tables.entries.items slot ≡ Some entry)
        × (find (λ e. not (same_aid e.aid ISSUER) && is_above after e.aid) said.entries ≡ Some (entry_of tables.entries.items tables.files.items entry))
    next_entry_named after slot next =
        let entry = held_from_name (λ (e : Entry). e.aid) tables.entries.items slot next.aid next.follows.named in (
          entry.0,
          entry.1,
          least_entry page tables said says (λ e. not (same_aid e.aid ISSUER) && is_above after e.aid) slot entry.0 (record {
            at = entry.1;
            fitting = and_from _ _ (other_entry slot entry.0 entry.1 next.follows.of) (ap (is_above after) entry.2 ∙ to_above after next.aid next.follows.above);
            least = λ other another at fits.
                (let parts = and_parts (not (same_aid another.aid ISSUER)) (is_above after another.aid) fits in
                subst (λ (a : List ℕ). aid_order a another.aid ≢ Greater) (sym entry.2)
                (next.least (found.Entry other) another.aid
                (record { of = other_slot other another at parts.0; named = ap (option_map (λ (e : Entry). e.aid)) at; above = above_from after another.aid parts.1 })));
          }),
        )

    pub no_next_entry : (after : Option (List ℕ)) → NoneFollows tables Entries after
        → find (λ e. not (same_aid e.aid ISSUER) && is_above after e.aid) said.entries ≡ None
    no_next_entry after none = no_entry page tables said says (λ e. not (same_aid e.aid ISSUER) && is_above after e.aid) (λ slot entry at fits.
        (let parts = and_parts (not (same_aid entry.aid ISSUER)) (is_above after entry.aid) fits in
        none (found.Entry slot) entry.aid
        (record { of = other_slot slot entry at parts.0; named = ap (option_map (λ (e : Entry). e.aid)) at; above = above_from after entry.aid parts.1 })))
