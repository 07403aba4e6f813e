-- Store pages hold the tables after a change, where the page of its slot is staged.
use Rattle.std.proofs.Common.{◌≡◌, ◌≢◌, ◌⊎◌, inl, inr, ⊎_elim, ℕ, ◌+◌, ◌/◌, ◌<◌, ◌≤◌, List, length-set, Option, true, refl, ap, sym, subst, ◌∙◌, arith}
use Rattle.std.specs.Prelude.{IfSome, slice_set}
use Rattle.std.specs.Vec.{with_item}
use Rattle.card_check.specs.IsCard.{IsInLoadPages}
use Rattle.card_types.specs.Represents.{HasSlots}
use Rattle.card_types.specs.declared.card_life.CardLife.{CardLife}
use Rattle.card_types.specs.declared.limits.TheConstants.{ENTRIES, FILES, KEYS, OBJECTS}
use Rattle.card_types.specs.declared.tables.Entry.{Entry}
use Rattle.card_types.specs.declared.tables.KeyRec.{KeyRec}
use Rattle.card_types.specs.declared.tables.LoadFile.{LoadFile}
use Rattle.card_types.specs.declared.tables.Object.{Object}
use Rattle.card_types.specs.declared.tables.Tables.{Tables}
use Rattle.flash_core.specs.declared.flash.Flash.{Ghosts as Flash}
use Rattle.flash_core.specs.declared.page.Page.{Page}
use Rattle.frame_pool.specs.Staged.{with_page}
use Rattle.page_journal.specs.Store.{Store}
use Rattle.page_journal.specs.Pages.{IsStorePage}
use Rattle.rec_store.specs.EntrySlot.{HoldsEntry}
use Rattle.rec_store.specs.FileSlot.{HoldsFile}
use Rattle.rec_store.specs.Reopens.{current_page}
use Rattle.rec_store.specs.KeySlot.{HoldsKey, IsRoomyKey}
use Rattle.rec_store.specs.ObjectSlot.{HoldsObject}
use Rattle.rec_store.specs.Places.{entry_page, entry_slot, file_slot, key_page, key_slot, object_page, object_slot}
use Rattle.rec_store.specs.StoredTables.{AreHeld, AreRoomy, HoldsPage, HoldsTables}
use Rattle.rec_store.specs.Superblock.{IsSuperblock}
use Rattle.rec_store.specs.declared.store_layout.Layout.{Layout}
use Rattle.rec_store.specs.declared.store_layout.Layout.TheVariants.{Third}
use Rattle.rec_store.proofs.Roomy.{of_all_set}
use Rattle.rec_store.proofs.Staging.{IsKept, held_anew, held_apart, kept_anew, page_apart, page_here}
use Rattle.rec_store.specs.declared.slot_places.TheConstants.{ENTRY_BYTES, FILE_BYTES, FIRST_ENTRY_PAGE, FIRST_FILE_PAGE, FIRST_KEY_PAGE, FIRST_OBJECT_PAGE, KEY_BYTES, OBJECT_BYTES}

module _ (pool : List (ℕ × Page)) (pages : List Page) (page : ℕ) (x : Page) (t u : Tables) where
  abbrev new : ℕ → List ℕ
  new = current_page (with_page pool page x) pages

  apart : (n : ℕ) → n ≢ page → new n ≡ current_page pool pages n
  apart = page_apart pool pages page x

  -- whichever layout it was in
  pub life_set : {layout : Layout} → HoldsTables layout (current_page pool pages) t → (life : CardLife) → u ≡ record t { life = life } → page ≡ 0 → IsSuperblock x.bytes Third life → HoldsTables Third new u
  life_set was life sets is anew = subst (HoldsTables Third new) (sym sets) (record {
    slots = record { entries = was.slots.entries; files = was.slots.files; keys = was.slots.keys; objects = was.slots.objects };
    superblock = subst (λ bytes. IsSuperblock bytes Third life) (sym (ap new (sym is) ∙ page_here pool pages page x)) anew;
    entries = held_apart HoldsEntry (current_page pool pages) new page apart FIRST_ENTRY_PAGE ENTRY_BYTES ENTRIES t.entries.items (λ i lt e. omega (arith, e, is)) was.entries;
    files = held_apart HoldsFile (current_page pool pages) new page apart FIRST_FILE_PAGE FILE_BYTES FILES t.files.items (λ i lt e. omega (arith, e, is)) was.files;
    keys = held_apart HoldsKey (current_page pool pages) new page apart FIRST_KEY_PAGE KEY_BYTES KEYS t.keys.items (λ i lt e. omega (arith, e, is)) was.keys;
    objects = held_apart HoldsObject (current_page pool pages) new page apart FIRST_OBJECT_PAGE OBJECT_BYTES OBJECTS t.objects.items (λ i lt e. omega (arith, e, is)) was.objects;
    fits = tt;
  })

-- records after a change of one slot
module _ {F : Type 0} (device : Flash F) (store after : Store F) (page : ℕ) (x : Page) (anew : after ≡ record store { staged = with_page store.staged page x }) (t : Tables) (kept : IsKept device store t) (live : store.live ≡ true) where
  abbrev old : ℕ → List ℕ
  old = current_page store.staged (device.pages store.flash)

  abbrev now : ℕ → List ℕ
  now = current_page (with_page store.staged page x) (device.pages store.flash)

  apart_now : (n : ℕ) → n ≢ page → now n ≡ old n
  apart_now = page_apart store.staged (device.pages store.flash) page x

  here : now page ≡ x.bytes
  here = page_here store.staged (device.pages store.flash) page x

  kept_with : (u : Tables) → IsStorePage page → AreRoomy u → (HoldsTables Third old t → HoldsTables Third now u) → IsKept device after u
  kept_with u lt roomy held = kept_anew store after page x anew device u lt roomy kept.1 kept.2 (λ told. held (kept.3 told live))

  -- what is in other pages
  module _ (was : HoldsTables Third old t) where
    kept_superblock : 0 < page → IsSuperblock (now 0) Third t.life
    kept_superblock out = subst (λ bytes. IsSuperblock bytes Third t.life) (sym (apart_now 0 (λ e. omega (arith, e, out)))) was.superblock

    kept_entries : FIRST_FILE_PAGE ≤ page → AreHeld HoldsEntry (entry_slot now) ENTRIES t.entries.items
    kept_entries out = held_apart HoldsEntry old now page apart_now FIRST_ENTRY_PAGE ENTRY_BYTES ENTRIES t.entries.items (λ i lt e. omega (arith, out, e, lt)) was.entries

    kept_files : (page < FIRST_FILE_PAGE) ⊎ (FIRST_KEY_PAGE ≤ page) → AreHeld HoldsFile (file_slot now) FILES t.files.items
    kept_files out = held_apart HoldsFile old now page apart_now FIRST_FILE_PAGE FILE_BYTES FILES t.files.items (λ i lt e. ⊎_elim (λ low. omega (arith, low, e)) (λ high. omega (arith, high, e, lt)) out) was.files

    kept_keys : (page < FIRST_KEY_PAGE) ⊎ (FIRST_OBJECT_PAGE ≤ page) → AreHeld HoldsKey (key_slot now) KEYS t.keys.items
    kept_keys out = held_apart HoldsKey old now page apart_now FIRST_KEY_PAGE KEY_BYTES KEYS t.keys.items (λ i lt e. ⊎_elim (λ low. omega (arith, low, e)) (λ high. omega (arith, high, e, lt)) out) was.keys

    kept_objects : page < FIRST_OBJECT_PAGE → AreHeld HoldsObject (object_slot now) OBJECTS t.objects.items
    kept_objects out = held_apart HoldsObject old now page apart_now FIRST_OBJECT_PAGE OBJECT_BYTES OBJECTS t.objects.items (λ i lt e. omega (arith, out, e)) was.objects

  pub entry_set : (slot n : ℕ) (value : Option Entry) → n ≡ slot → slot < ENTRIES → page ≡ entry_page slot → HoldsPage HoldsEntry ENTRY_BYTES x.bytes (slot / (256 / ENTRY_BYTES)) (slice_set t.entries.items n value) → IsKept device after (record t { entries = with_item t.entries n value })
  entry_set slot n value same lt is in_page =
      let roomy = kept.0 in
      let slots : HasSlots (record t { entries = with_item t.entries n value }) = record { entries = length-set t.entries.items n value ∙ roomy.slots.entries; files = roomy.slots.files; keys = roomy.slots.keys; objects = roomy.slots.objects } in
      kept_with (record t { entries = with_item t.entries n value }) (omega (arith, is, lt)) (record { slots = slots; files = roomy.files; keys = roomy.keys })
      (λ was. record {
        slots = slots;
        superblock = kept_superblock was (omega (arith, is));
        entries = held_anew HoldsEntry old now page apart_now FIRST_ENTRY_PAGE ENTRY_BYTES x.bytes ENTRIES slot n value t.entries.items same is here in_page (omega arith) was.entries;
        files = kept_files was (inl (omega (arith, is, lt)));
        keys = kept_keys was (inl (omega (arith, is, lt)));
        objects = kept_objects was (omega (arith, is, lt));
        fits = tt;
      })

  pub file_set : (slot n : ℕ) (value : Option LoadFile) → n ≡ slot → slot < FILES → page ≡ FIRST_FILE_PAGE + slot / (256 / FILE_BYTES) → HoldsPage HoldsFile FILE_BYTES x.bytes (slot / (256 / FILE_BYTES)) (slice_set t.files.items n value) → IfSome value IsInLoadPages → IsKept device after (record t { files = with_item t.files n value })
  file_set slot n value same lt is in_page one =
      let roomy = kept.0 in
      let slots : HasSlots (record t { files = with_item t.files n value }) = record { entries = roomy.slots.entries; files = length-set t.files.items n value ∙ roomy.slots.files; keys = roomy.slots.keys; objects = roomy.slots.objects } in
      kept_with (record t { files = with_item t.files n value }) (omega (arith, is, lt)) (record { slots = slots; files = of_all_set IsInLoadPages t.files.items n value roomy.files one; keys = roomy.keys })
      (λ was. record {
        slots = slots;
        superblock = kept_superblock was (omega (arith, is));
        entries = kept_entries was (omega (arith, is));
        files = held_anew HoldsFile old now page apart_now FIRST_FILE_PAGE FILE_BYTES x.bytes FILES slot n value t.files.items same is here in_page (omega arith) was.files;
        keys = kept_keys was (inl (omega (arith, is, lt)));
        objects = kept_objects was (omega (arith, is, lt));
        fits = tt;
      })

  pub key_set : (slot n : ℕ) (value : Option KeyRec) → n ≡ slot → slot < KEYS → page ≡ key_page slot → HoldsPage HoldsKey KEY_BYTES x.bytes (slot / (256 / KEY_BYTES)) (slice_set t.keys.items n value) → IfSome value IsRoomyKey → IsKept device after (record t { keys = with_item t.keys n value })
  key_set slot n value same lt is in_page one =
      let roomy = kept.0 in
      let slots : HasSlots (record t { keys = with_item t.keys n value }) = record { entries = roomy.slots.entries; files = roomy.slots.files; keys = length-set t.keys.items n value ∙ roomy.slots.keys; objects = roomy.slots.objects } in
      kept_with (record t { keys = with_item t.keys n value }) (omega (arith, is, lt)) (record { slots = slots; files = roomy.files; keys = of_all_set IsRoomyKey t.keys.items n value roomy.keys one })
      (λ was. record {
        slots = slots;
        superblock = kept_superblock was (omega (arith, is));
        entries = kept_entries was (omega (arith, is));
        files = kept_files was (inr (omega (arith, is)));
        keys = held_anew HoldsKey old now page apart_now FIRST_KEY_PAGE KEY_BYTES x.bytes KEYS slot n value t.keys.items same is here in_page (omega arith) was.keys;
        objects = kept_objects was (omega (arith, is, lt));
        fits = tt;
      })

  pub object_set : (slot n : ℕ) (value : Option Object) → n ≡ slot → slot < OBJECTS → page ≡ object_page slot → HoldsPage HoldsObject OBJECT_BYTES x.bytes (slot / (256 / OBJECT_BYTES)) (slice_set t.objects.items n value) → IsKept device after (record t { objects = with_item t.objects n value })
  object_set slot n value same lt is in_page =
      let roomy = kept.0 in
      let slots : HasSlots (record t { objects = with_item t.objects n value }) = record { entries = roomy.slots.entries; files = roomy.slots.files; keys = roomy.slots.keys; objects = length-set t.objects.items n value ∙ roomy.slots.objects } in
      kept_with (record t { objects = with_item t.objects n value }) (omega (arith, is, lt)) (record { slots = slots; files = roomy.files; keys = roomy.keys })
      (λ was. record {
        slots = slots;
        superblock = kept_superblock was (omega (arith, is));
        entries = kept_entries was (omega (arith, is));
        files = kept_files was (inr (omega (arith, is)));
        keys = kept_keys was (inr (omega (arith, is)));
        objects = held_anew HoldsObject old now page apart_now FIRST_OBJECT_PAGE OBJECT_BYTES x.bytes OBJECTS slot n value t.objects.items same is here in_page (omega arith) was.objects;
        fits = tt;
      })

  pub card_life_set : (life : CardLife) → page ≡ 0 → IsSuperblock x.bytes Third life → IsKept device after (record t { life = life })
  card_life_set life is superblock =
      let roomy = kept.0 in
      kept_with (record t { life = life }) (omega (arith, is)) (record { slots = record { entries = roomy.slots.entries; files = roomy.slots.files; keys = roomy.slots.keys; objects = roomy.slots.objects }; files = roomy.files; keys = roomy.keys })
      (λ was. life_set store.staged (device.pages store.flash) page x t (record t { life = life }) was life refl is superblock)
