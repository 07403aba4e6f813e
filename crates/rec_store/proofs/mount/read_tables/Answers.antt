use Rattle.std.proofs.Common.{◌≡◌, ◌<◌, ◌++◌, ℕ, List, Option, Result, length, take, drop, ap, sym, subst, ◌∙◌, arith}
use Rattle.std.specs.Prelude.{All, IfErr, IsErrAnd}
use Rattle.std.specs.Vec.{with_items}
use Rattle.std.proofs.lemmas.List.{take-append-le, take_all}
use Rattle.card_types.specs.Represents.{things_in, thing_in}
use Rattle.card_types.specs.declared.limits.TheConstants.{ENTRIES, FILES, KEYS, OBJECTS}
use Rattle.card_types.specs.declared.tables.Tables.{Tables}
use Rattle.flash_core.specs.declared.flash.Flash.{Ghosts as Flash}
use Rattle.flash_core.specs.declared.page.Page.{Page}
use Rattle.page_journal.specs.Store.{Store}
use Rattle.rec_store.specs.Contents.{SlotsFail}
use Rattle.rec_store.specs.EntrySlot.{HasThreeBytes, HoldsEntry}
use Rattle.rec_store.specs.FileSlot.{HoldsFile}
use Rattle.rec_store.specs.Reading.{IsRead}
use Rattle.rec_store.specs.Reopens.{store_page}
use Rattle.rec_store.specs.KeySlot.{HoldsKey}
use Rattle.rec_store.specs.ObjectSlot.{HoldsObject}
use Rattle.rec_store.specs.Places.{slot_from}
use Rattle.rec_store.specs.StoredTables.{AreHeld, HoldsTables}
use Rattle.rec_store.specs.StoreLayout.{FitsLayout}
use Rattle.rec_store.specs.Superblock.{IsSuperblock}
use Rattle.rec_store.specs.declared.open.OpenCause.{OpenCause}
use Rattle.rec_store.specs.declared.store_layout.Layout.{Layout}
use Rattle.rec_store.proofs.Causes.{fails_later, handed_on, no_card}
use Rattle.rec_store.proofs.OneRegistry.{one_keys}
use Rattle.rec_store.proofs.OneThing.{one_layout}
use Rattle.rec_store.proofs.Readings.{reads_on}
use Rattle.rec_store.proofs.mount.read_tables.Goals as goal
use Rattle.rec_store.specs.declared.slot_places.TheConstants.{ENTRY_BYTES, FILE_BYTES, FIRST_ENTRY_PAGE, FIRST_FILE_PAGE, FIRST_KEY_PAGE, FIRST_OBJECT_PAGE, KEY_BYTES, OBJECT_BYTES}

abbrev NoTables : (ℕ → List ℕ) → Type 0
NoTables store = (layout : Layout) (t : Tables) → HoldsTables layout store t → ⊥

abbrev BadSlot : {T : Type 0} → (List ℕ → Option T → Type 0) → ℕ → ℕ → ℕ → List Page → Type 0
BadSlot {T} holds first size count pages = (slot : ℕ) × (slot < count) × ((thing : Option T) → holds (slot_from (store_page pages) first size slot) thing → ⊥)

-- a slot that holds nothing after reads of the store is one of no tables, and its cause is handed on
refused : {F T R : Type 0} (device : Flash F) (old mid : Store F) (now : ℕ) → IsRead device old mid → (holds : List ℕ → Option T → Type 0) (first size count all : ℕ) (items : Tables → List (Option T)) → count ≡ all
    → ((layout : Layout) (t : Tables) → HoldsTables layout (store_page (device.pages old.flash)) t → AreHeld holds (slot_from (store_page (device.pages old.flash)) first size) all (items t))
    → (result : Result R OpenCause) (given : OpenCause) → IsErrAnd result (λ cause. cause ≡ given) → SlotsFail device.tells (device.faults mid.flash) now (BadSlot holds first size count (device.pages mid.flash)) given
    → IfErr result (SlotsFail device.tells (device.faults old.flash) now (NoTables (store_page (device.pages old.flash))))
refused device old mid now read holds first size count all items is are result given same why =
    handed_on (SlotsFail device.tells (device.faults old.flash) now (NoTables (store_page (device.pages old.flash)))) result given same
    (fails_later device.tells (device.faults old.flash) (device.faults mid.flash) now (BadSlot holds first size count (device.pages mid.flash)) (NoTables (store_page (device.pages old.flash))) read.later
    (λ told bad layout t held_all.
    bad.2 (thing_in (items t) bad.0) (subst (λ pages. holds (slot_from (store_page pages) first size bad.0) (thing_in (items t) bad.0)) (sym (read.seen told)) (are layout t held_all bad.0 (omega (arith, bad.1, is)))))
    given why)

-- the slots in the place of a table's
filled : {T : Type 0} (count : ℕ) (items slots : List (Option T)) → count ≡ length items → length slots ≡ length items → take count (slots ++ drop (length slots) items) ≡ slots
filled count items slots is same = take-append-le count slots (drop (length slots) items) (omega (arith, is, same)) ∙ take_all count slots (omega (arith, is, same))

-- tables of slots that hold things
are_held : {T : Type 0} (holds : List ℕ → Option T → Type 0) (first size count all : ℕ) (old now : List Page) (slots : List (Option T)) → now ≡ old → count ≡ all → AreHeld holds (slot_from (store_page now) first size) count slots → AreHeld holds (slot_from (store_page old) first size) all slots
are_held holds first size count all old now slots same is are = subst (λ pages. AreHeld holds (slot_from (store_page pages) first size) all slots) same (subst (λ n. AreHeld holds (slot_from (store_page now) first size) n slots) is are)

pub returns-in_err-read_slots-clause-err : goal.returns-in_err-read_slots-clause-err
returns-in_err-read_slots-clause-err g c =
    refused g.F.Flash c.args.store.now c.read_store.new.store (g.F.Flash.faults c.read_slots.new.store.flash) c.read_store.ensures.read HoldsEntry FIRST_ENTRY_PAGE ENTRY_BYTES (length c.deref_mut.result.now) ENTRIES (λ t. t.entries.items)
    (ap length c.deref_mut.ensures.value ∙ c.requires.slots.entries) (λ layout t held_all. held_all.entries) c.from_residual-in_err-read_slots.result c.in_err-read_slots.field-0.0 c.from_residual-in_err-read_slots.ensures.1 c.in_err-read_slots.ensures.err

pub returns-in_err-read_slots-2-clause-err : goal.returns-in_err-read_slots-2-clause-err
returns-in_err-read_slots-2-clause-err g c =
    refused g.F.Flash c.args.store.now c.read_slots.new.store (g.F.Flash.faults c.read_slots-2.new.store.flash) (reads_on g.F.Flash c.args.store.now c.read_store.new.store c.read_slots.new.store c.read_store.ensures.read c.in_ok-read_slots.ensures.read) HoldsFile FIRST_FILE_PAGE FILE_BYTES (length c.deref_mut-2.result.now) FILES (λ t. t.files.items)
    (ap length c.deref_mut-2.ensures.value ∙ c.requires.slots.files) (λ layout t held_all. held_all.files) c.from_residual-in_err-read_slots-2.result c.in_err-read_slots-2.field-0.0 c.from_residual-in_err-read_slots-2.ensures.1 c.in_err-read_slots-2.ensures.err

pub returns-in_err-read_slots-3-clause-err : goal.returns-in_err-read_slots-3-clause-err
returns-in_err-read_slots-3-clause-err g c =
    refused g.F.Flash c.args.store.now c.read_slots-2.new.store (g.F.Flash.faults c.read_slots-3.new.store.flash) (reads_on g.F.Flash c.args.store.now c.read_slots.new.store c.read_slots-2.new.store (reads_on g.F.Flash c.args.store.now c.read_store.new.store c.read_slots.new.store c.read_store.ensures.read c.in_ok-read_slots.ensures.read) c.in_ok-read_slots-2.ensures.read) HoldsKey FIRST_KEY_PAGE KEY_BYTES (length c.deref_mut-3.result.now) KEYS (λ t. t.keys.items)
    (ap length c.deref_mut-3.ensures.value ∙ c.requires.slots.keys) (λ layout t held_all. held_all.keys) c.from_residual-in_err-read_slots-3.result c.in_err-read_slots-3.field-0.0 c.from_residual-in_err-read_slots-3.ensures.1 c.in_err-read_slots-3.ensures.err

pub returns-in_err-read_slots-4-clause-err : goal.returns-in_err-read_slots-4-clause-err
returns-in_err-read_slots-4-clause-err g c =
    refused g.F.Flash c.args.store.now c.read_slots-3.new.store (g.F.Flash.faults c.read_slots-4.new.store.flash) (reads_on g.F.Flash c.args.store.now c.read_slots-2.new.store c.read_slots-3.new.store (reads_on g.F.Flash c.args.store.now c.read_slots.new.store c.read_slots-2.new.store (reads_on g.F.Flash c.args.store.now c.read_store.new.store c.read_slots.new.store c.read_store.ensures.read c.in_ok-read_slots.ensures.read) c.in_ok-read_slots-2.ensures.read) c.in_ok-read_slots-3.ensures.read) HoldsObject FIRST_OBJECT_PAGE OBJECT_BYTES (length c.deref_mut-4.result.now) OBJECTS (λ t. t.objects.items)
    (ap length c.deref_mut-4.ensures.value ∙ c.requires.slots.objects) (λ layout t held_all. held_all.objects) c.from_residual-in_err-read_slots-4.result c.in_err-read_slots-4.field-0.0 c.from_residual-in_err-read_slots-4.ensures.1 c.in_err-read_slots-4.ensures.err

pub returns-clause-held : goal.returns-clause-held
returns-clause-held g c told =
    let F = g.F.Flash in
    let first = F.pages c.args.store.now.flash in
    let before = c.args.tables.now in
    let after : Tables = record { life = c.in_ok-layout.life; entries = with_items before.entries c.read_slots.new.slots; files = with_items before.files c.read_slots-2.new.slots; keys = with_items before.keys c.read_slots-3.new.slots; objects = with_items before.objects c.read_slots-4.new.slots } in
    let entries_long : length c.read_slots.new.slots ≡ length before.entries.items = c.read_slots.auto.slots ∙ ap length c.deref_mut.ensures.value in
    let entries_are : after.entries.items ≡ c.read_slots.new.slots = filled before.entries.len before.entries.items c.read_slots.new.slots before.entries.ok.0 entries_long in
    let files_long : length c.read_slots-2.new.slots ≡ length before.files.items = c.read_slots-2.auto.slots ∙ ap length c.deref_mut-2.ensures.value in
    let files_are : after.files.items ≡ c.read_slots-2.new.slots = filled before.files.len before.files.items c.read_slots-2.new.slots before.files.ok.0 files_long in
    let keys_long : length c.read_slots-3.new.slots ≡ length before.keys.items = c.read_slots-3.auto.slots ∙ ap length c.deref_mut-3.ensures.value in
    let keys_are : after.keys.items ≡ c.read_slots-3.new.slots = filled before.keys.len before.keys.items c.read_slots-3.new.slots before.keys.ok.0 keys_long in
    let objects_long : length c.read_slots-4.new.slots ≡ length before.objects.items = c.read_slots-4.auto.slots ∙ ap length c.deref_mut-4.ensures.value in
    let objects_are : after.objects.items ≡ c.read_slots-4.new.slots = filled before.objects.len before.objects.items c.read_slots-4.new.slots before.objects.ok.0 objects_long in
    record {
      slots = record { entries = ap length entries_are ∙ entries_long ∙ c.requires.slots.entries; files = ap length files_are ∙ files_long ∙ c.requires.slots.files; keys = ap length keys_are ∙ keys_long ∙ c.requires.slots.keys; objects = ap length objects_are ∙ objects_long ∙ c.requires.slots.objects };
      superblock = subst (λ bytes. IsSuperblock bytes c.in_ok-layout.layout c.in_ok-layout.life) (sym (c.in_ok-read_store.ensures.page told)) c.in_ok-layout.ensures.ok;
      entries = subst (AreHeld HoldsEntry (slot_from (store_page first) FIRST_ENTRY_PAGE ENTRY_BYTES) ENTRIES) (sym entries_are) (are_held HoldsEntry FIRST_ENTRY_PAGE ENTRY_BYTES (length c.read_slots.new.slots) ENTRIES first (F.pages c.read_store.new.store.flash) c.read_slots.new.slots (c.read_store.ensures.read.seen told) (entries_long ∙ c.requires.slots.entries) (c.in_ok-read_slots.ensures.ok told));
      files = subst (AreHeld HoldsFile (slot_from (store_page first) FIRST_FILE_PAGE FILE_BYTES) FILES) (sym files_are) (are_held HoldsFile FIRST_FILE_PAGE FILE_BYTES (length c.read_slots-2.new.slots) FILES first (F.pages c.read_slots.new.store.flash) c.read_slots-2.new.slots (c.in_ok-read_slots.ensures.read.seen told ∙ c.read_store.ensures.read.seen told) (files_long ∙ c.requires.slots.files) (c.in_ok-read_slots-2.ensures.ok told));
      keys = subst (AreHeld HoldsKey (slot_from (store_page first) FIRST_KEY_PAGE KEY_BYTES) KEYS) (sym keys_are) (are_held HoldsKey FIRST_KEY_PAGE KEY_BYTES (length c.read_slots-3.new.slots) KEYS first (F.pages c.read_slots-2.new.store.flash) c.read_slots-3.new.slots (c.in_ok-read_slots-2.ensures.read.seen told ∙ c.in_ok-read_slots.ensures.read.seen told ∙ c.read_store.ensures.read.seen told) (keys_long ∙ c.requires.slots.keys) (c.in_ok-read_slots-3.ensures.ok told));
      objects = subst (AreHeld HoldsObject (slot_from (store_page first) FIRST_OBJECT_PAGE OBJECT_BYTES) OBJECTS) (sym objects_are) (are_held HoldsObject FIRST_OBJECT_PAGE OBJECT_BYTES (length c.read_slots-4.new.slots) OBJECTS first (F.pages c.read_slots-3.new.store.flash) c.read_slots-4.new.slots (c.in_ok-read_slots-3.ensures.read.seen told ∙ c.in_ok-read_slots-2.ensures.read.seen told ∙ c.in_ok-read_slots.ensures.read.seen told ∙ c.read_store.ensures.read.seen told) (objects_long ∙ c.requires.slots.objects) (c.in_ok-read_slots-4.ensures.ok told));
      fits = subst (FitsLayout c.in_ok-layout.layout) c.deref.ensures.value (let it = c.if-not-fits_layout.false in c.fits_layout.ensures.0 (cc it));
    }

pub returns-clause-entries : goal.returns-clause-entries
returns-clause-entries g c =
    let before = c.args.tables.now in
    let long : length c.read_slots.new.slots ≡ length before.entries.items = c.read_slots.auto.slots ∙ ap length c.deref_mut.ensures.value in
    let are : take before.entries.len (c.read_slots.new.slots ++ drop (length c.read_slots.new.slots) before.entries.items) ≡ c.read_slots.new.slots = filled before.entries.len before.entries.items c.read_slots.new.slots before.entries.ok.0 long in
    subst (λ slots. All HasThreeBytes (things_in slots)) (sym are) c.in_ok-read_slots.ensures.read_each

pub returns-then-not-fits_layout-clause-err : goal.returns-then-not-fits_layout-clause-err
returns-then-not-fits_layout-clause-err g c told layout t held_all =
    let first = g.F.Flash.pages c.args.store.now.flash in
    let slots = c.read_slots-3.new.slots in
    let long : length slots ≡ length c.args.tables.now.keys.items = c.read_slots-3.auto.slots ∙ ap length c.deref_mut-3.ensures.value in
    let seen = c.in_ok-read_slots-2.ensures.read.seen told ∙ c.in_ok-read_slots.ensures.read.seen told ∙ c.read_store.ensures.read.seen told in
    let are = are_held HoldsKey FIRST_KEY_PAGE KEY_BYTES (length slots) KEYS first (g.F.Flash.pages c.read_slots-2.new.store.flash) slots seen (long ∙ c.requires.slots.keys) (c.in_ok-read_slots-3.ensures.ok told) in
    let keys : t.keys.items ≡ slots = one_keys (store_page first) t.keys.items slots held_all.slots.keys (long ∙ c.requires.slots.keys) held_all.keys are in
    let here : slots ≡ c.deref.result.now = sym (filled c.args.tables.now.keys.len c.args.tables.now.keys.items slots c.args.tables.now.keys.ok.0 long) ∙ sym c.deref.ensures.value in
    let superblock = subst (λ bytes. IsSuperblock bytes c.in_ok-layout.layout c.in_ok-layout.life) (sym (c.in_ok-read_store.ensures.page told)) c.in_ok-layout.ensures.ok in
    let same = one_layout layout c.in_ok-layout.layout (sym held_all.superblock.number ∙ superblock.number) in
    let is = c.fits_layout.ensures.1 (subst (FitsLayout c.in_ok-layout.layout) (keys ∙ here) (subst (λ l. FitsLayout l t.keys.items) same held_all.fits)) in
    let not_it = c.if-not-fits_layout.true in
    absurd (cc (is, not_it))

pub returns-in_err-layout-clause-err : goal.returns-in_err-layout-clause-err
returns-in_err-layout-clause-err g c =
    let F = g.F.Flash in
    let first = c.args.store.now.flash in
    no_card c.from_residual-in_err-layout.result F.tells (F.faults first) (F.faults c.read_store.new.store.flash) (NoTables (store_page (F.pages first))) c.from_residual-in_err-layout.ensures.1
    (λ told layout t held_all. c.in_err-layout.ensures.err layout t.life (subst (λ bytes. IsSuperblock bytes layout t.life) (c.in_ok-read_store.ensures.page told) held_all.superblock))
