-- For the code inside. What a DELETE of an object is to remove, and whether it may go, by slots.
use Rattle.std.specs.Prelude.{◌≡◌, ◌≢◌, ◌⊎◌, ℕ, ◌<◌, ◌==◌, ◌&&◌, List, Bool, true, false, not, Option, None, Some, MatchOption}
use Rattle.card_types.specs.Aid.{same_aid}
use Rattle.card_types.specs.Found.{aid_of}
use Rattle.card_types.specs.Represents.{thing_in}
use Rattle.card_types.specs.declared.factory.TheConstants.{FACTORY_FILE}
use Rattle.card_types.specs.declared.found.Found.{Found}
use Rattle.card_types.specs.declared.found.Found.TheVariants.{Entry, File}
use Rattle.card_types.specs.declared.tables.Entry.{Entry as Slot}
use Rattle.card_types.specs.declared.tables.LoadFile.{LoadFile}
use Rattle.card_types.specs.declared.tables.Tables.{Tables}
use Rattle.card_types.specs.declared.tables.TheConstants.{ISSUER_SLOT}
use Rattle.policy_machine.specs.Admission.{Admitted}
use Rattle.policy_machine.specs.Charge.{IsInCharge}
use Rattle.policy_machine.specs.DeleteObject.{IsToGo}
use Rattle.policy_machine.specs.Management.{acting}
use Rattle.policy_machine.specs.declared.channels.TheConstants.{CHANNELS}
use Rattle.content_rules.specs.declared.delete_object.DeletionRequest.{DeletionRequest}
use Rattle.policy_slots.specs.declared.live.Live.{Live}

-- the entry in the slot comes from the Executable Load File in another
abbrev pub IsFrom : Tables → ℕ → ℕ → Type 0
IsFrom tables file slot = MatchOption (thing_in tables.entries.items slot) ⊥ (λ entry. entry.file ≡ file)

-- the entry in the slot is to go: it is the thing, or it is related, as it comes from the thing
abbrev pub IsToGoIn : Tables → Bool → Found → ℕ → Type 0
IsToGoIn tables related (Entry thing) slot = slot ≡ thing
IsToGoIn tables related (File file) slot = (related ≡ true) × IsFrom tables file slot

-- a channel has the entry in the slot selected
abbrev pub HasSelected : Live → ℕ → Type 0
HasSelected live slot = (number : ℕ) × (number < CHANNELS) × (thing_in live.selected number ≡ Some slot)

-- the load session is for the domain in the slot
abbrev pub IsLoadDomain : Live → ℕ → Type 0
IsLoadDomain live slot = MatchOption live.load ⊥ (λ load. load.domain ≡ slot)

-- the slot is that of the domain of another entry, or of an Executable Load File
abbrev pub HasOthersIn : Tables → ℕ → Type 0
HasOthersIn tables slot =
    ((other : ℕ) × (entry : Slot) × (other ≢ slot) × (thing_in tables.entries.items other ≡ Some entry) × (entry.domain ≡ slot))
    ⊎ ((other : ℕ) × (file : LoadFile) × (thing_in tables.files.items other ≡ Some file) × (file.domain ≡ slot))

-- the entry in the slot is in use
abbrev pub IsInUseIn : Tables → Live → ℕ → Type 0
IsInUseIn tables live slot = HasSelected live slot ⊎ IsLoadDomain live slot ⊎ HasOthersIn tables slot

-- no entry that is to go is the domain of anything else
abbrev pub IsAlone : Tables → Bool → Found → Type 0
IsAlone tables related thing = (slot : ℕ) → IsToGoIn tables related thing slot → HasOthersIn tables slot → ⊥

-- none is selected, and the load session is for none
abbrev pub IsUnselected : Tables → Live → Bool → Found → Type 0
IsUnselected tables live related thing = (slot : ℕ) → IsToGoIn tables related thing slot → (HasSelected live slot → ⊥) × (IsLoadDomain live slot → ⊥)

-- nothing comes from the Executable Load File that goes alone
abbrev pub HasNoneFrom : Tables → Bool → Found → Type 0
HasNoneFrom tables related (Entry slot) = Unit {0}
HasNoneFrom tables related (File file) = related ≡ false → (slot : ℕ) → IsFrom tables file slot → ⊥

-- it is neither the Issuer Security Domain nor the factory's Executable Load File
abbrev pub IsRemovable : Tables → Found → Type 0
IsRemovable tables (Entry slot) = slot ≢ ISSUER_SLOT
IsRemovable tables (File slot) = aid_of tables (File slot) ≢ Some FACTORY_FILE

-- something that is to go with the thing is not in the charge of the domain
abbrev pub IsPartOutOfCharge : Admitted → List ℕ → Type 0
IsPartOutOfCharge admitted thing = (aid : List ℕ) × IsToGo admitted thing aid × (IsInCharge admitted.at.registry (acting admitted) aid → ⊥)

-- a channel has the entry in this slot selected
abbrev pub has_slot : ℕ → Option ℕ → Bool
has_slot slot None = false
has_slot slot (Some other) = other == slot

-- an entry from the Executable Load File in the slot
abbrev pub comes_from_slot : ℕ → Option Slot → Bool
comes_from_slot file None = false
comes_from_slot file (Some entry) = entry.file == file

-- an entry with another AID than this, of the domain in the slot, and an Executable Load File of that domain
abbrev pub is_other_of : ℕ → List ℕ → Option Slot → Bool
is_other_of slot aid None = false
is_other_of slot aid (Some entry) = entry.domain == slot && not (same_aid entry.aid aid)

abbrev pub is_file_of : ℕ → Option LoadFile → Bool
is_file_of slot None = false
is_file_of slot (Some file) = file.domain == slot

-- The thing is this one, and it may go.
pub record FindsThing (request : DeletionRequest) (tables : Tables) (live : Live) (thing : Found) : Type 0 where
  pub named : aid_of tables thing ≡ Some request.aid
  pub alone : IsAlone tables request.related thing
  pub unselected : IsUnselected tables live request.related thing
  pub unloaded : HasNoneFrom tables request.related thing
  pub lasting : IsRemovable tables thing
