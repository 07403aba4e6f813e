-- Numbered AIDs that name a thing, and the first that names none.
use Rattle.std.proofs.Common.{◌≡◌, ◌≢◌, inl, inr, ℕ, ◌+◌, ◌<◌, ◌≤◌, ◌^◌, List, ◌++◌, Option, None, Some, length, drop, refl, ap, sym, subst, ◌∙◌, arith, length-append}
use Rattle.std.specs.Prelude.{Contains, IfNone, IfSome, IsSome, is_some, map, true, false}
use Rattle.std.specs.Int.{from_be_bytes, w32}
use Rattle.std.proofs.lemmas.Nat.{from_be_bytes-to_be_bytes_4}
use Rattle.std.proofs.lemmas.List.{length-map}
use Rattle.std.proofs.lemmas.List.Elements.{Contains-append_left, Contains-append_right}
use Rattle.std.proofs.Math.Dec.{lit≤}
use Rattle.std.proofs.Math.Nat.{lt_of_lt_of_le}
use Rattle.card_types.proofs.LeastOfList.{found_some}
use Rattle.card_types.proofs.Members.{contains_map}
use Rattle.card_types.proofs.SameAid.{same_aid_decides}
use Rattle.card_types.specs.Aid.{same_aid}
use Rattle.card_types.specs.Well.{Well}
use Rattle.card_types.proofs.EntryNames.{slot_of_entry}
use Rattle.card_types.proofs.FileNames.{slot_of_file}
use Rattle.card_types.proofs.FoundNames.{found_entry_named, found_file_named}
use Rattle.card_types.specs.Found.{aid_of}
use Rattle.card_types.specs.Represents.{IsInOrder, Represents}
use Rattle.card_types.specs.Registry as registry
use Rattle.card_types.specs.Registry.{Registry, entry_named, file_named}
use Rattle.card_types.specs.declared.found.Found.{Found}
use Rattle.card_types.specs.declared.found.Found.TheVariants as found
use Rattle.card_types.specs.declared.tables.Tables.{Tables}
use Rattle.std.specs.Option.{option_map}
use Rattle.access_matrix.specs.Commands.{IsFirstFreeAid, numbered_aid}
use Rattle.access_matrix.specs.Deeds.{IsThing}
use Rattle.access_matrix.proofs.Pigeonhole.{no_more_names}
use Rattle.card_types.specs.declared.limits.TheConstants.{ENTRIES, FILES}

-- a slot holds a thing with the AID
abbrev pub IsInSlot : Tables → List ℕ → Type 0
IsInSlot tables aid = (thing : Found) × (aid_of tables thing ≡ Some aid)

abbrev pub AreInSlots : Tables → ℕ → Type 0
AreInSlots tables count = (lower : ℕ) → lower < count → IsInSlot tables (numbered_aid lower)

pub numbered_apart : (i j : ℕ) → i < 2 ^ 32 → j < 2 ^ 32 → numbered_aid i ≡ numbered_aid j → i ≡ j
numbered_apart i j small little same =
    sym (from_be_bytes-to_be_bytes_4 i small) ∙ ap (λ bytes. from_be_bytes w32 (drop 1 bytes)) same ∙ from_be_bytes-to_be_bytes_4 j little

module _ (page : ℕ → List ℕ) (tables : Tables) (said : Registry) (says : Represents page tables said) where
  some_entry : (aid : List ℕ) (o : Option registry.Entry) → entry_named said aid ≡ o → IsSome o → IsInSlot tables aid
  some_entry aid None named some = cc
  some_entry aid (Some entry) named some =
      let there = slot_of_entry page tables said says aid entry named in
      (found.Entry there.0, ap (option_map (λ e. e.aid)) there.2 ∙ ap Some there.4)

  some_file : (aid : List ℕ) (o : Option registry.LoadFile) → file_named said aid ≡ o → IsSome o → IsInSlot tables aid
  some_file aid None named some = cc
  some_file aid (Some file) named some =
      let there = slot_of_file page tables said says aid file named in
      (found.File there.0, ap (option_map (λ f. f.aid)) there.2 ∙ ap Some there.4)

  pub in_slot_from_thing : (aid : List ℕ) → IsThing said aid → IsInSlot tables aid
  in_slot_from_thing aid (inl entry) = some_entry aid (entry_named said aid) refl entry
  in_slot_from_thing aid (inr file) = some_file aid (file_named said aid) refl file

  pub thing_in_slot : (aid : List ℕ) → IsInSlot tables aid → IsThing said aid
  thing_in_slot aid (found.Entry slot, named) = inl (rw (found_entry_named page tables said says slot aid named).2 refl)
  thing_in_slot aid (found.File slot, named) = inr (rw (found_file_named page tables said says slot aid named).2 refl)

  pub first_free : (number : ℕ) → AreInSlots tables number → (IsInSlot tables (numbered_aid number) → ⊥) → IsFirstFreeAid said (numbered_aid number)
  first_free number below none = record {
    number = number;
    is = refl;
    free = λ thing. none (in_slot_from_thing (numbered_aid number) thing);
    first = λ lower less. thing_in_slot (numbered_aid lower) (below lower less);
  }

-- the AIDs of all things
abbrev names : Registry → List (List ℕ)
names said = map (λ entry. entry.aid) said.entries ++ map (λ file. file.aid) said.files

thing_among : (said : Registry) (aid : List ℕ) → IsThing said aid → Contains (names said) aid
thing_among said aid (inl some) =
    let entry = found_some (λ e. same_aid e.aid aid) said.entries some in
    Contains-append_left (map (λ e. e.aid) said.entries) (map (λ f. f.aid) said.files) aid
    (subst (Contains (map (λ e. e.aid) said.entries)) ((same_aid_decides entry.0.aid aid).0 entry.2) (contains_map (λ e. e.aid) said.entries entry.0 entry.1))
thing_among said aid (inr some) =
    let file = found_some (λ f. same_aid f.aid aid) said.files some in
    Contains-append_right (map (λ e. e.aid) said.entries) (map (λ f. f.aid) said.files) aid
    (subst (Contains (map (λ f. f.aid) said.files)) ((same_aid_decides file.0.aid aid).0 file.2) (contains_map (λ f. f.aid) said.files file.0 file.1))

-- as many things as there are slots for
abbrev pub most_things : ℕ
most_things = ENTRIES + FILES

-- there are no more things than slots
few_things : (said : Registry) → Well said → length (names said) ≤ most_things
few_things said well =
    let size : length (names said) ≡ length said.entries + length said.files =
    length-append (map (λ e. e.aid) said.entries) (map (λ f. f.aid) said.files)
    ∙ (λ i. length-map said.entries (λ e. e.aid) i + length-map said.files (λ f. f.aid) i) in
    omega (arith, size, well.few_entries, well.few_files)

pub never_all : (tables : Tables) → IsInOrder tables → AreInSlots tables (most_things + 1) → ⊥
never_all tables order all =
    let fits : (i : ℕ) → i < most_things + 1 → i < 2 ^ 32 = λ i below. lt_of_lt_of_le below (lit≤ tt) in
    let count : most_things + 1 ≤ length (names order.said) =
    no_more_names numbered_aid (most_things + 1) (names order.said) (λ i j less under. numbered_apart i j (fits i less) (fits j under))
    (λ i below. thing_among order.said (numbered_aid i) (thing_in_slot order.page tables order.said order.says (numbered_aid i) (all i below))) in
    omega (arith, count, few_things order.said order.well)

-- what a search for an AID says of the slots
pub named_none : (tables : Tables) (aid : List ℕ) (o : Option Found) → is_some o ≡ false → IfNone o ((thing : Found) → aid_of tables thing ≢ Some aid) → IsInSlot tables aid → ⊥
named_none tables aid None is none there = none there.0 there.1
named_none tables aid (Some thing) is none there = cc

pub named_some : (tables : Tables) (aid : List ℕ) (o : Option Found) → is_some o ≡ true → IfSome o (λ thing. aid_of tables thing ≡ Some aid) → IsInSlot tables aid
named_some tables aid None is some = cc
named_some tables aid (Some thing) is some = (thing, some)
