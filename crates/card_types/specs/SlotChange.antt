-- For the code inside. Tables before and after a change of one slot.
use Rattle.std.specs.Prelude.{◌≡◌, ℕ, Option, slice_set}
use Rattle.card_types.specs.declared.tables.Entry.{Entry}
use Rattle.card_types.specs.declared.tables.LoadFile.{LoadFile}
use Rattle.card_types.specs.declared.tables.KeyRec.{KeyRec}
use Rattle.card_types.specs.declared.tables.Object.{Object}
use Rattle.card_types.specs.declared.tables.Tables.{Tables}

-- the slot of the entries holds this then, and all else is as it was
pub record SetsEntry (before after : Tables) (slot : ℕ) (entry : Option Entry) : Type 0 where
  pub life : after.life ≡ before.life
  pub entries : after.entries.items ≡ slice_set before.entries.items slot entry
  pub files : after.files.items ≡ before.files.items
  pub keys : after.keys.items ≡ before.keys.items
  pub objects : after.objects.items ≡ before.objects.items

pub record SetsFile (before after : Tables) (slot : ℕ) (file : Option LoadFile) : Type 0 where
  pub life : after.life ≡ before.life
  pub entries : after.entries.items ≡ before.entries.items
  pub files : after.files.items ≡ slice_set before.files.items slot file
  pub keys : after.keys.items ≡ before.keys.items
  pub objects : after.objects.items ≡ before.objects.items

pub record SetsKey (before after : Tables) (slot : ℕ) (key : Option KeyRec) : Type 0 where
  pub life : after.life ≡ before.life
  pub entries : after.entries.items ≡ before.entries.items
  pub files : after.files.items ≡ before.files.items
  pub keys : after.keys.items ≡ slice_set before.keys.items slot key
  pub objects : after.objects.items ≡ before.objects.items

pub record SetsObject (before after : Tables) (slot : ℕ) (object : Option Object) : Type 0 where
  pub life : after.life ≡ before.life
  pub entries : after.entries.items ≡ before.entries.items
  pub files : after.files.items ≡ before.files.items
  pub keys : after.keys.items ≡ before.keys.items
  pub objects : after.objects.items ≡ slice_set before.objects.items slot object
