-- For the code inside. Things that join the registry, and those that do not.
use Rattle.std.specs.Prelude.{◌≡◌, ◌≢◌, ◌⊎◌, ℕ, List, Option, Some, IsSome}
use Rattle.card_types.specs.Search.{IsFirstFree, NoneFree}
use Rattle.card_types.specs.Found.{aid_of}
use Rattle.card_types.specs.Registry.{Registry, entry_named, file_named}
use Rattle.card_types.specs.SlotChange.{SetsEntry, SetsFile}
use Rattle.card_types.specs.declared.found.Found.{Found}
use Rattle.card_types.specs.declared.tables.Entry.{Entry}
use Rattle.card_types.specs.declared.tables.LoadFile.{LoadFile}
use Rattle.card_types.specs.declared.tables.Tables.{Tables}
use Rattle.registry.specs.declared.refusal.AddRefusal.{AddRefusal}
use Rattle.registry.specs.declared.refusal.AddRefusal.TheVariants.{Taken, Full}

-- an entry or an Executable Load File has the AID
abbrev pub IsAidTaken : Registry → List ℕ → Type 0
IsAidTaken registry aid = IsSome (entry_named registry aid) ⊎ IsSome (file_named registry aid)

-- the thing is in the first slot that was free
pub record AddsEntry (before after : Tables) (slot : ℕ) (entry : Entry) : Type 0 where
  pub free : IsFirstFree before.entries.items slot
  pub set : SetsEntry before after slot (Some entry)

pub record AddsFile (before after : Tables) (slot : ℕ) (file : LoadFile) : Type 0 where
  pub free : IsFirstFree before.files.items slot
  pub set : SetsFile before after slot (Some file)

-- nothing in a slot has the AID
abbrev pub NoneHas : Tables → List ℕ → Type 0
NoneHas tables aid = (thing : Found) → aid_of tables thing ≢ Some aid

-- why a thing with this AID gets none of these slots
abbrev pub PlaceFails : {T : Type 0} → Tables → List ℕ → List (Option T) → AddRefusal → Type 0
PlaceFails tables aid slots Taken = (thing : Found) × (aid_of tables thing ≡ Some aid)
PlaceFails tables aid slots Full = NoneHas tables aid × NoneFree slots
