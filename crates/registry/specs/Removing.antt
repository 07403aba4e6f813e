-- For the code inside. Things that leave the registry.
use Rattle.std.specs.Prelude.{◌≡◌, ◌≢◌, ◌⊎◌, ℕ, ◌==◌, Bool, Contains, false, Option, None, Some, map, slice_set, if◌then◌else◌}
use Rattle.card_types.specs.Represents.{thing_in}
use Rattle.card_types.specs.declared.tables.Entry.{Entry}
use Rattle.card_types.specs.declared.tables.KeyRec.{KeyRec}
use Rattle.card_types.specs.declared.tables.LoadFile.{LoadFile}
use Rattle.card_types.specs.declared.tables.Object.{Object}
use Rattle.card_types.specs.declared.tables.Tables.{Tables}
use Rattle.rec_store.specs.Contents.{Contents}
use Rattle.rec_store.specs.Places.{entry_page, key_page, object_page}
use Rattle.registry.specs.Pages.{IsChangedOn}

-- the slot is the domain of no other entry and of no Executable Load File
pub record IsNoDomain (tables : Tables) (slot : ℕ) : Type 0 where
  pub entries : (other : ℕ) (entry : Entry) → other ≢ slot → thing_in tables.entries.items other ≡ Some entry → entry.domain ≢ slot
  pub files : (other : ℕ) (file : LoadFile) → thing_in tables.files.items other ≡ Some file → file.domain ≢ slot

-- no entry comes from the Executable Load File in the slot
abbrev pub IsUnloaded : Tables → ℕ → Type 0
IsUnloaded tables slot = (other : ℕ) (entry : Entry) → thing_in tables.entries.items other ≡ Some entry → entry.file ≢ slot

abbrev pub key_owner : KeyRec → ℕ
key_owner key = key.owner

abbrev pub object_owner : Object → ℕ
object_owner object = object.owner

-- the slot of the Executable Load File that it comes from
abbrev pub entry_file : Entry → ℕ
entry_file entry = entry.file

-- the slot holds a thing of this domain, or an entry of this Executable Load File
abbrev pub is_owned : {T : Type 0} → (T → ℕ) → ℕ → Option T → Bool
is_owned owner domain None = false
is_owned owner domain (Some thing) = owner thing == domain

-- what the slot holds where these go
abbrev pub slot_without : {T : Type 0} → (T → ℕ) → ℕ → Option T → Option T
slot_without owner domain held = if is_owned owner domain held then None else held

-- the entry is gone, and so are the keys and data objects that it owns
pub record RemovesEntry (before after : Tables) (slot : ℕ) : Type 0 where
  pub life : after.life ≡ before.life
  pub entries : after.entries.items ≡ slice_set before.entries.items slot None
  pub files : after.files.items ≡ before.files.items
  pub keys : after.keys.items ≡ map (slot_without key_owner slot) before.keys.items
  pub objects : after.objects.items ≡ map (slot_without object_owner slot) before.objects.items

-- the entries that come from the Executable Load File are gone
pub record RemovesApplications (before after : Tables) (file : ℕ) : Type 0 where
  pub life : after.life ≡ before.life
  pub entries : after.entries.items ≡ map (slot_without entry_file file) before.entries.items
  pub files : after.files.items ≡ before.files.items
  pub keys : after.keys.items ≡ before.keys.items
  pub objects : after.objects.items ≡ before.objects.items

-- each page that is staged then was staged, or a slot on it, of an entry, a key or a data object, holds another thing than before
abbrev pub StagesOwned : {F : Type 0} → Contents F → Contents F → Type 0
StagesOwned old new =
    (page : ℕ) → Contains new.staged page → Contains old.staged page
    ⊎ IsChangedOn entry_page old.tables.entries.items new.tables.entries.items page
    ⊎ IsChangedOn key_page old.tables.keys.items new.tables.keys.items page
    ⊎ IsChangedOn object_page old.tables.objects.items new.tables.objects.items page
