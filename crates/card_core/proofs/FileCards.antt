-- Tables after an Executable Load File joined: what a receipt is made from is as it was, and they are a card's over any load pages.
use Rattle.std.proofs.Common.{◌≡◌, ℕ, zero, suc, ◌+◌, ◌<◌, ◌≤◌, ◌++◌, false, true, List, [], ◌∷◌, Option, None, Some, length, refl, ap, subst, sym, ◌∙◌, append_assoc, arith}
use Rattle.std.specs.Prelude.{MatchOption, All, Contains, map, nat_eq, slice_set}
use Rattle.std.specs.List.{AllByRecursion, IsDistinct, concat, sum_by}
use Rattle.std.specs.List.Sorted.{IsPermutation}
use Rattle.std.proofs.lemmas.Bool.{ne_eqb}
use Rattle.std.proofs.lemmas.Bool.Decides.{nat_tests}
use Rattle.std.proofs.lemmas.List.{get_or-set_other, length-set, length-take}
use Rattle.std.proofs.lemmas.List.Elements.{All-cons, All-contains_itself, All-head, All-tail, All-weaker, recursion_from_All}
use Rattle.std.proofs.lemmas.List.Sorted.{All-permutation, IsPermutation-append_comm, IsPermutation-append_left, IsPermutation-append_right, IsPermutation-refl, IsPermutation-trans, sum_by-IsPermutation}
use Rattle.std.proofs.lemmas.List.Sums.{sum_by-cons}
use Rattle.std.proofs.lemmas.Map.Keys.{IsDistinct-IsPermutation, IsDistinct-cons, IsDistinct-head, IsDistinct-tail}
use Rattle.std.proofs.ByRecursion.{All-append}
use Rattle.card_core.specs.Prelude.{AddsFile, AreCards, AreOwn, HasIssuer, HasPageNumbers, HasPages, IsAid, IsFileAdded, IsFree, IsInLoadPages, NoneHas, Represents, Well, all_pages, file_of, is_domain_in, pages_in, pages_named, pages_of, thing_in, things_in}
use Rattle.card_types.proofs.AddedThing.{file_added_keeps}
use Rattle.card_types.proofs.ChangedSlot.{set_shown}
use Rattle.card_types.proofs.FoundNames.{none_found_none_named}
use Rattle.card_types.proofs.Room.{file_room}
use Rattle.card_types.specs.Registry as registry
use Rattle.card_types.specs.declared.factory.TheConstants.{FACTORY_FILE}
use Rattle.card_types.specs.declared.limits.TheConstants.{LOAD_PAGES}
use Rattle.card_types.specs.declared.tables.Entry.{Entry}
use Rattle.card_types.specs.declared.tables.KeyRec.{KeyRec}
use Rattle.card_types.specs.declared.tables.LoadFile.{LoadFile}
use Rattle.card_types.specs.declared.tables.Object.{Object}
use Rattle.card_types.specs.declared.tables.Tables.{Tables}
use Rattle.load_session.proofs.Judged.{as_long}
use Rattle.card_core.proofs.Cards.{AreFiles, IsFactoryIn, cards_over, in_order}
use Rattle.card_core.proofs.EntryCards.{KeepsNumbers}
use Rattle.card_core.proofs.SomeAdmitted.{domain_named}

-- a file joins, and entries, keys and data objects stay
pub joining_keeps : (before after : Tables) (slot : ℕ) (file : LoadFile) → AddsFile before after slot file → KeepsNumbers before after
joining_keeps before after slot file adds = record {
  entries = λ s e at. (e, ap (λ (slots : List (Option Entry)). thing_in slots s) adds.set.entries ∙ at, refl, refl);
  keys = adds.set.keys;
  objects = adds.set.objects;
}

-- a page that is not among others differs from each
other_than : (page : ℕ) (others : List ℕ) → (Contains others page → ⊥) → AllByRecursion (λ y. nat_eq page y ≡ false) others
other_than page others apart =
    recursion_from_All (λ y. nat_eq page y ≡ false) others
    (All-weaker (Contains others) (λ y. nat_eq page y ≡ false) (λ y there. ne_eqb page y (λ same. apart (subst (Contains others) (sym same) there))) others (All-contains_itself others))

-- a page that no file names differs from each page that a file names
other_than_named : (page : ℕ) (files : List LoadFile) → All (λ file. Contains (pages_named file) page → ⊥) files
    → AllByRecursion (λ y. nat_eq page y ≡ false) (concat (map pages_named files))
other_than_named page [] free = tt
other_than_named page (first ∷ rest) free =
    All-append (λ y. nat_eq page y ≡ false) (pages_named first) (concat (map pages_named rest))
    (other_than page (pages_named first) (All-head (λ file. Contains (pages_named file) page → ⊥) first rest free))
    (other_than_named page rest (All-tail (λ file. Contains (pages_named file) page → ⊥) first rest free))

module _ (tables : Tables) where
  -- pages of its own, and after them those that files have
  distinct_joined : (pages : List ℕ) → IsDistinct nat_eq pages → All (IsFree tables) pages → IsDistinct nat_eq (all_pages tables.files.items)
      → IsDistinct nat_eq (pages ++ all_pages tables.files.items)
  distinct_joined [] apart free others = others
  distinct_joined (page ∷ rest) apart free others =
      IsDistinct-cons nat_eq page (rest ++ all_pages tables.files.items)
      (All-append (λ y. nat_eq page y ≡ false) rest (all_pages tables.files.items) (IsDistinct-head nat_eq page rest apart)
      (other_than_named page (things_in tables.files.items) (All-head (IsFree tables) page rest free)))
      (distinct_joined rest (IsDistinct-tail nat_eq page rest apart) (All-tail (IsFree tables) page rest free) others)

abbrev IsFactory : Option LoadFile → Type 0
IsFactory slot = MatchOption slot ⊥ (λ file. (file.aid ≡ FACTORY_FILE) × (file.len ≡ 0))

module _ (file : LoadFile) where
  -- the pages of the files are those that they were, and those of the new one
  pages_joined : (slots : List (Option LoadFile)) (slot : ℕ) → slot < length slots → thing_in slots slot ≡ None
      → IsPermutation (pages_named file ++ all_pages slots) (all_pages (slice_set slots slot (Some file)))
  pages_joined [] slot within free = absurd (omega (arith, within))
  pages_joined (None ∷ slots) zero within free = IsPermutation-refl (pages_named file ++ all_pages slots)
  pages_joined (Some first ∷ slots) zero within free = cc
  pages_joined (None ∷ slots) (suc slot) within free = pages_joined slots slot (omega (arith, within)) free
  pages_joined (Some first ∷ slots) (suc slot) within free =
      let own = pages_named file in
      let named = pages_named first in
      let rest = pages_joined slots slot (omega (arith, within)) free in
      let front = IsPermutation-append_left (all_pages slots) (own ++ named) (named ++ own) (IsPermutation-append_comm own named) in
      let turned : IsPermutation (own ++ (named ++ all_pages slots)) (named ++ (own ++ all_pages slots)) = rw (sym (append_assoc own named (all_pages slots)), sym (append_assoc named own (all_pages slots))) front in
      IsPermutation-trans _ _ _ turned (IsPermutation-append_right named _ _ rest)

  module _ (before after : Tables) (slot : ℕ) (adds : AddsFile before after slot file) where
    -- the files are those that they were, and the new one
    files_joined : IsPermutation (file ∷ things_in before.files.items) (things_in after.files.items)
    files_joined =
        subst (λ (slots : List (Option LoadFile)). IsPermutation (file ∷ things_in before.files.items) (things_in slots)) (sym adds.set.files)
        (rw adds.free.free at (set_shown (λ (thing : Option LoadFile). thing) before.files.items slot (Some file) adds.free.within))

    -- the files stand as a card's do
    files_stand : IsInLoadPages file → AreOwn before (pages_named file) → AreFiles before.files.items → AreFiles after.files.items
    files_stand is own are = record {
      factory = subst IsFactoryIn (sym adds.set.files)
          (subst IsFactory (sym (get_or-set_other before.files.items slot 0 (Some file) None (λ first. subst IsFactory (ap (thing_in before.files.items) first ∙ adds.free.free) are.factory)))
          are.factory);
      pages = All-permutation IsInLoadPages _ (things_in after.files.items) files_joined (All-cons IsInLoadPages file (things_in before.files.items) is are.pages);
      apart = IsDistinct-IsPermutation nat_eq (λ x y. grind (arith, nat_tests)) _ (all_pages after.files.items)
          (subst (λ (slots : List (Option LoadFile)). IsPermutation (pages_named file ++ all_pages before.files.items) (all_pages slots)) (sym adds.set.files)
          (pages_joined before.files.items slot adds.free.within adds.free.free))
          (distinct_joined before (pages_named file) own.apart own.free are.apart);
    }

-- the bytes of the files take no more pages than the files
pages_at_most : (page : ℕ → List ℕ) (entries : List (Option Entry)) (files : List LoadFile)
    → sum_by (λ (file : registry.LoadFile). pages_of (length file.bytes)) (map (file_of page entries) files) ≤ sum_by (λ (file : LoadFile). pages_of file.len) files
pages_at_most page entries [] = omega arith
pages_at_most page entries (first ∷ rest) =
    omega (
      arith,
      length-take first.len (concat (map page (pages_named first))),
      pages_at_most page entries rest,
      sum_by-cons (λ (file : registry.LoadFile). pages_of (length file.bytes)) (file_of page entries first) (map (file_of page entries) rest),
      sum_by-cons (λ (file : LoadFile). pages_of file.len) first rest,
    )

module _ (before after : Tables) (slot : ℕ) (file : LoadFile) (adds : AddsFile before after slot file) (aid : IsAid file.aid) (array : HasPageNumbers file)
    (is : IsInLoadPages file) (some : 1 ≤ file.len) (few : pages_in before + pages_of file.len ≤ LOAD_PAGES) (none : NoneHas before file.aid)
    (domain : is_domain_in before.entries.items file.domain ≡ true) (cards : AreCards before) where
  -- the registry with the file is one that a card may have
  well_joined : (page : ℕ → List ℕ) (said : registry.Registry) → HasPages page → Represents page before said → Well said
      → (now : registry.Registry) → IsFileAdded (file_of page before.entries.items file) said now → Well now
  well_joined page said whole says well now added =
      let view = file_of page before.entries.items in
      let unnamed = none_found_none_named page before said says file.aid none in
      let room = file_room page before said says slot adds.free.within adds.free.free in
      let slots = (in_order before cards).layout.slots.files in
      let long = as_long page whole before.entries.items file array is.size in
      let counted = sum_by-IsPermutation (λ (f : registry.LoadFile). pages_of (length f.bytes)) (map view (things_in before.files.items)) said.files says.files in
      let fewer = pages_at_most page before.entries.items (things_in before.files.items) in
      (file_added_keeps (view file) said now (record { well = well; ascending = says.ascending }) (record {
        aid = aid;
        free = record { no_entry = unnamed.0; no_file = unnamed.1 };
        room = omega (arith, room, slots);
        domain = domain_named page before said says well file.domain domain;
        some = omega (arith, long, some);
        most = omega (arith, long, is.size);
        pages = omega (arith, ap pages_of long, counted, fewer, few);
      }) added).well

  -- the tables with the file are a card's
  pub joined_cards : AreOwn before (pages_named file)
      → ((page : ℕ → List ℕ) (said : registry.Registry) → Represents page before said → Well said
      → (now : registry.Registry) × IsFileAdded (file_of page before.entries.items file) said now × Represents page after now)
      → AreCards after
  joined_cards own each =
      cards_over before after
      (ap (λ (slots : List (Option Entry)). length slots) adds.set.entries)
      (ap (λ (slots : List (Option LoadFile)). length slots) adds.set.files ∙ length-set before.files.items slot (Some file))
      (ap (λ (slots : List (Option KeyRec)). length slots) adds.set.keys)
      (ap (λ (slots : List (Option Object)). length slots) adds.set.objects)
      (λ issuer. subst HasIssuer (sym adds.set.entries) issuer)
      (files_stand file before after slot adds is own)
      (λ page said whole says well.
      (let now = each page said says well in
      (now.0, now.2, well_joined page said whole says well now.0 now.1)))
      cards
