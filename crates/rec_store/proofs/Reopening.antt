-- What power loss may leave reopens as the registry that was there.
use Rattle.std.proofs.Common.{◌≡◌, inl, inr, ℕ, ◌+◌, ◌/◌, ◌%◌, ◌<◌, ◌++◌, List, [], ◌∷◌, length, Option, Some, Result, Ok, Err, refl, ap, sym, subst, ◌∙◌, arith}
use Rattle.std.specs.Prelude.{All, Contains, OnOk, map, replicate, take}
use Rattle.std.specs.List.{concat}
use Rattle.std.specs.List.Sorted.{IsPermutation}
use Rattle.std.proofs.lemmas.Bool.Decides.{nat_tests}
use Rattle.std.proofs.lemmas.List.{length-append, length-replicate, length-take-le, take-append-le, take_all}
use Rattle.std.proofs.lemmas.List.Elements.{All-cons, All-contains, All-head, All-map, All-nil, All-tail}
use Rattle.card_check.specs.IsCard.{HasPages, IsCardOf, pages_named}
use Rattle.card_types.proofs.Members.{contains_first, contains_later}
use Rattle.card_types.specs.Registry.{Registry}
use Rattle.card_types.specs.Represents.{Represents, domain_aid, file_of, things_in, thing_in}
use Rattle.card_types.specs.declared.limits.TheConstants.{ENTRIES, FILES, KEYS, OBJECTS}
use Rattle.card_types.specs.declared.tables.LoadFile.{LoadFile}
use Rattle.card_types.specs.declared.tables.Tables.{Tables}
use Rattle.flash_core.specs.Device.{NoneNew, Only}
use Rattle.flash_core.specs.declared.flash.Flash.{Ghosts as Flash}
use Rattle.flash_core.specs.declared.page.Page.{Page}
use Rattle.page_journal.specs.Journal.{HasValidJournal, bytes_of, stored_page}
use Rattle.page_journal.specs.Moments.{Always, Leaves, current, first_of}
use Rattle.rec_store.specs.EntrySlot.{HoldsEntry}
use Rattle.rec_store.specs.FileSlot.{HoldsFile}
use Rattle.rec_store.specs.Reopens.{AreSpare, IsFree, IsSpare, KeepsPages, NoLoadPage, Reopens, load_in, load_page, store_in, store_page}
use Rattle.rec_store.specs.KeySlot.{HoldsKey}
use Rattle.rec_store.specs.ObjectSlot.{HoldsObject}
use Rattle.rec_store.specs.Places.{slot_at, slot_from}
use Rattle.rec_store.specs.StoredTables.{AreHeld, HoldsTables}
use Rattle.rec_store.specs.Superblock.{IsSuperblock}
use Rattle.rec_store.specs.declared.store_layout.Layout.{Layout}
use Rattle.rec_store.proofs.OneRegistry.{same_pages}
use Rattle.page_journal.specs.Pages.{IsStorePage}
use Rattle.page_journal.proofs.PageKinds.{IsPastJournal, IsPastStore, journal_or_past}
use Rattle.rec_store.specs.declared.slot_places.TheConstants.{ENTRY_BYTES, FILE_BYTES, FIRST_ENTRY_PAGE, FIRST_FILE_PAGE, FIRST_KEY_PAGE, FIRST_OBJECT_PAGE, KEY_BYTES, OBJECT_BYTES}

-- store pages that are the same hold the same tables
module _ (old new : ℕ → List ℕ) (same : (n : ℕ) → IsStorePage n → new n ≡ old n) where
  held_same : {T : Type 0} (holds : List ℕ → Option T → Type 0) (first size count : ℕ) (things : List (Option T)) → ((i : ℕ) → i < count → IsStorePage (first + i / (256 / size))) → AreHeld holds (slot_from old first size) count things → AreHeld holds (slot_from new first size) count things
  held_same holds first size count things within was i lt =
      subst (λ bytes. holds bytes (thing_in things i)) (sym (ap (λ page. slot_at page size (i % (256 / size))) (same (first + i / (256 / size)) (within i lt)))) (was i lt)

  pub tables_same : {layout : Layout} (t : Tables) → HoldsTables layout old t → HoldsTables layout new t
  tables_same {layout = layout} t was = record {
    slots = was.slots;
    superblock = subst (λ bytes. IsSuperblock bytes layout t.life) (sym (same 0 (omega arith))) was.superblock;
    entries = held_same HoldsEntry FIRST_ENTRY_PAGE ENTRY_BYTES ENTRIES t.entries.items (λ i lt. omega (arith, lt)) was.entries;
    files = held_same HoldsFile FIRST_FILE_PAGE FILE_BYTES FILES t.files.items (λ i lt. omega (arith, lt)) was.files;
    keys = held_same HoldsKey FIRST_KEY_PAGE KEY_BYTES KEYS t.keys.items (λ i lt. omega (arith, lt)) was.keys;
    objects = held_same HoldsObject FIRST_OBJECT_PAGE OBJECT_BYTES OBJECTS t.objects.items (λ i lt. omega (arith, lt)) was.objects;
    fits = was.fits;
  }

map_same : {X Y : Type 0} (f g : X → Y) (xs : List X) → ((x : X) → Contains xs x → f x ≡ g x) → map f xs ≡ map g xs
map_same f g [] each = refl
map_same f g (x ∷ xs) each =
    let first = each x (contains_first x xs) in
    let rest = map_same f g xs (λ y among. each y (contains_later x xs y among)) in
    cc

-- tables say the same over load pages of which those are the same that a file has
module _ (old new : ℕ → List ℕ) (t : Tables) (same : (file : LoadFile) → Contains (things_in t.files.items) file → (n : ℕ) → Contains (pages_named file) n → new n ≡ old n) where
  same_files : map (file_of new t.entries.items) (things_in t.files.items) ≡ map (file_of old t.entries.items) (things_in t.files.items)
  same_files = map_same (file_of new t.entries.items) (file_of old t.entries.items) (things_in t.files.items) (λ file among.
      let pages = map_same new old (pages_named file) (same file among) in
      λ i. record { aid = file.aid; domain = domain_aid t.entries.items file.domain; bytes = take file.len (concat (pages i)) })

  pub says_same : (registry : Registry) → Represents old t registry → Represents new t registry
  says_same registry says = record {
    life = says.life;
    entries = says.entries;
    files = subst (λ files. IsPermutation files registry.files) (sym same_files) says.files;
    keys = says.keys;
    counters = says.counters;
    objects = says.objects;
    ascending = says.ascending;
  }

  pub card_same : (registry : Registry) → IsCardOf old t registry → IsCardOf new t registry
  card_same registry card = record {
    layout = card.layout;
    factory_file = card.factory_file;
    files = card.files;
    apart = card.apart;
    says = says_same registry card.says;
    well = card.well;
  }

-- a load page of a list
pub load_at : (list : ℕ → Option Page) (n : ℕ) → IsPastJournal n → load_in list n ≡ take 256 (bytes_of (list n) ++ replicate 256 0)
load_at list n le = grind (arith, nat_tests)

pub has_pages : (list : ℕ → Option Page) → HasPages (load_in list)
has_pages list n = elim (journal_or_past n) [
  | inl low ↦ grind (arith, nat_tests)
  | inr high ↦
      (let whole : length (take 256 (bytes_of (list n) ++ replicate 256 0)) ≡ 256 = length-take-le 256 _ (omega (arith, length-append (bytes_of (list n)) (replicate 256 0), length-replicate {A = ℕ} 256 0)) in
      ap length (load_at list n high) ∙ whole)
]

pub load_same : (a b : ℕ → Option Page) (n : ℕ) → (IsPastJournal n → a n ≡ b n) → load_in a n ≡ load_in b n
load_same a b n same = elim (journal_or_past n) [
  | inl low ↦ grind (arith, nat_tests)
  | inr high ↦ load_at a n high ∙ ap (λ page. take 256 (bytes_of page ++ replicate 256 0)) (same high) ∙ sym (load_at b n high)
]

-- what power loss leaves of a list of pages that hold tables
module _ (list : ℕ → Option Page) (loose : List ℕ) (outcome : List Page) (t : Tables) (leaves : Leaves list loose outcome) (free : (n : ℕ) → Contains loose n → IsFree t n) (registry : Registry) (card : IsCardOf (load_in list) t registry) where
  left_store : (n : ℕ) → IsStorePage n → store_page outcome n ≡ store_in list n
  left_store n lt = ap bytes_of (leaves.store n lt)

  left_load : (file : LoadFile) → Contains (things_in t.files.items) file → (n : ℕ) → Contains (pages_named file) n → load_page outcome n ≡ load_in list n
  left_load file among n named = load_same (stored_page outcome) list n (λ high. leaves.load n high (λ is_loose. All-contains (λ file. Contains (pages_named file) n → ⊥) (things_in t.files.items) file (free n is_loose) among named))

  pub left_tables : {layout : Layout} → HoldsTables layout (store_in list) t → HoldsTables layout (store_page outcome) t
  left_tables held = tables_same (store_in list) (store_page outcome) left_store t held

  pub left_card : IsCardOf (load_page outcome) t registry
  left_card = card_same (load_in list) (load_page outcome) t left_load registry card

  pub left : {layout : Layout} → HoldsTables layout (store_in list) t → Reopens outcome registry
  left {layout = layout} held = record { sound = leaves.sound; holds = record { layout = layout; tables = t; held = left_tables held; card = left_card } }

-- pages that hold a registry, of which all else that power loss leaves are loose pages
pub keeps : (pages : List Page) (may_leave : List Page → Type 0) (registry : Registry) {layout : Layout} (t : Tables) → HasValidJournal pages → HoldsTables layout (store_page pages) t → IsCardOf (load_page pages) t registry
    → (loose : List ℕ) → Always may_leave (Leaves (stored_page pages) loose) → ((n : ℕ) → Contains loose n → IsFree t n) → KeepsPages pages may_leave registry
keeps pages may_leave registry {layout = layout} t sound held card loose leaves free = record {
  reopens = λ outcome possible. left (stored_page pages) loose outcome t (leaves outcome possible) free registry card held;
  now = record { sound = sound; holds = record { layout = layout; tables = t; held = held; card = card } };
  loose = loose;
  leaves = leaves;
  free = free;
}

-- pages that are the same, where power loss leaves nothing else
pub keeps_on : (old new : List Page) (may_leave later : List Page → Type 0) (registry : Registry) → new ≡ old → NoneNew may_leave later → KeepsPages old may_leave registry → KeepsPages new later registry
keeps_on old new may_leave later registry same none was = subst (λ pages. KeepsPages pages later registry) (sym same) (record {
  reopens = λ outcome possible. was.reopens outcome (none outcome possible);
  now = was.now;
  loose = was.loose;
  leaves = λ outcome possible. was.leaves outcome (none outcome possible);
  free = was.free;
})

-- the load page that was read
pub load_read : (list : ℕ → Option Page) (n : ℕ) (page : Page) → IsPastJournal n → list n ≡ Some page → length page.bytes ≡ 256 → page.bytes ≡ load_in list n
load_read list n page high is whole = sym (load_at list n high ∙ ap (λ one. take 256 (bytes_of one ++ replicate 256 0)) is ∙ first)
  where
    first : take 256 (page.bytes ++ replicate 256 0) ≡ page.bytes
    first = take-append-le 256 page.bytes (replicate 256 0) (omega (arith, whole)) ∙ take_all 256 page.bytes (omega (arith, whole))

-- no load page is staged
pub load_current : (pool : List (ℕ × Page)) (pages : List Page) (n : ℕ) → NoLoadPage pool → IsPastStore n → current pool pages n ≡ stored_page pages n
load_current pool pages n none le = ap (λ one. first_of one (stored_page pages n)) (none n le)

pub on_ok : {A B : Type 0} (result : Result A B) (P Q : Type 0) → (P → Q) → OnOk result P → OnOk result Q
on_ok (Ok value) P Q step holds = step holds
on_ok (Err error) P Q step holds = tt

-- files of which each has none of these pages, and those of other tables with the same pages
free_same : (t u : Tables) (page : ℕ) → map pages_named (things_in t.files.items) ≡ map pages_named (things_in u.files.items) → IsFree t page → IsFree u page
free_same t u page same free =
    All-from_map (things_in u.files.items) (subst (All (λ named. Contains named page → ⊥)) same (All-map (λ named. Contains named page → ⊥) pages_named (things_in t.files.items) free))
  where
    All-from_map : (files : List LoadFile) → All (λ named. Contains named page → ⊥) (map pages_named files) → All (λ file. Contains (pages_named file) page → ⊥) files
    All-from_map [] all = All-nil (λ file. Contains (pages_named file) page → ⊥)
    All-from_map (file ∷ files) all = All-cons (λ file. Contains (pages_named file) page → ⊥) file files (All-head (λ named. Contains named page → ⊥) (pages_named file) (map pages_named files) all)
        (All-from_map files (All-tail (λ named. Contains named page → ⊥) (pages_named file) (map pages_named files) all))

-- two tables that the same store pages hold: no file of the one has a page that no file of the other has
pub free_of_held : (store : ℕ → List ℕ) (t u : Tables) (page : ℕ) → {first second : Layout} → HoldsTables first store t → HoldsTables second store u → IsFree t page → IsFree u page
free_of_held store t u page first second = free_same t u page (same_pages store (λ _. []) t u first second)

-- a page that no file of these tables has is one of no file of any that the same store pages hold
pub spare_of_held : {F : Type 0} (device : Flash F) (flash : F) (t : Tables) → {layout : Layout} → HoldsTables layout (store_page (device.pages flash)) t → AreSpare device flash t
spare_of_held device flash t held page free of u other = free_of_held (store_page (device.pages flash)) t u page held other free

-- what was spare is so where the store pages are the same
pub spare_same : {F : Type 0} (device : Flash F) (old new : F) → ((n : ℕ) → IsStorePage n → store_page (device.pages new) n ≡ store_page (device.pages old) n) → (page : ℕ) → IsSpare device old page → IsSpare device new page
spare_same device old new same page spare of t held =
    spare of t (tables_same (store_page (device.pages new)) (store_page (device.pages old)) (λ n lt. sym (same n lt)) t held)

-- pages that power loss leaves of a list, and what it leaves then
pub keeps_left : (list : ℕ → Option Page) (loose : List ℕ) (t : Tables) (registry : Registry) → ((n : ℕ) → Contains loose n → IsFree t n) → {layout : Layout} → HoldsTables layout (store_in list) t → IsCardOf (load_in list) t registry
    → (pages : List Page) (may_leave : List Page → Type 0) → Leaves list loose pages → Always may_leave (Leaves list loose) → KeepsPages pages may_leave registry
keeps_left list loose t registry free held card pages may_leave now later =
    keeps pages may_leave registry t now.sound (left_tables list loose pages t now free registry card held) (left_card list loose pages t now free registry card) loose
    (λ outcome possible.
    let leaves = later outcome possible in
    record {
      sound = leaves.sound;
      store = λ n lt. leaves.store n lt ∙ sym (now.store n lt);
      load = λ n high tight. leaves.load n high tight ∙ sym (now.load n high tight);
    })
    free

pub both_ok : {A B : Type 0} (result : Result A B) (P Q : Type 0) → OnOk result P → OnOk result Q → OnOk result (P × Q)
both_ok (Ok value) P Q first second = (first, second)
both_ok (Err error) P Q first second = tt

pub always_ok : {A B : Type 0} (result : Result A B) (P : Type 0) → P → OnOk result P
always_ok (Ok value) P holds = holds
always_ok (Err error) P holds = tt

-- a page of no list is loose
pub none_loose : (t : Tables) (n : ℕ) → Contains [] n → IsFree t n
none_loose t n among = absurd (omega (arith, among.1))

-- the pages as read are all that power loss may leave
pub only_leaves : (pages : List Page) (may_leave : List Page → Type 0) → HasValidJournal pages → Only pages may_leave → Always may_leave (Leaves (stored_page pages) [])
only_leaves pages may_leave sound only outcome possible =
    subst (Leaves (stored_page pages) []) (sym (only outcome possible)) (record { sound = sound; store = λ n lt. refl; load = λ n high tight. refl })
