-- What contracts see of records, and why a device is not mounted.
use Rattle.std.specs.Prelude.{◌≡◌, ℕ, Bool, List}
use Rattle.card_types.specs.Registry.{Registry}
use Rattle.card_types.specs.declared.tables.Tables.{Tables}
use Rattle.faults.specs.Faults.{Rose}
use Rattle.flash_core.specs.declared.flash.Flash.{Ghosts as Flash}
use Rattle.page_journal.specs.Moments.{LeavesOnly}
use Rattle.page_journal.specs.declared.cause.MountCause.{MountCause}
use Rattle.page_journal.specs.declared.cause.MountCause.TheVariants as mount
use Rattle.rec_store.specs.Reopens.{Reopens}
use Rattle.rec_store.specs.declared.open.OpenCause.{OpenCause}
use Rattle.rec_store.specs.declared.open.OpenCause.TheVariants.{Memory, FlashFailed, NotACard}

-- the device, the tables with all changes so far, the numbers of the store pages that are staged, and whether no commit
-- has failed
pub record Contents (F : Type 0) : Type 0 where
  pub flash : F
  pub tables : Tables
  pub staged : List ℕ
  pub live : Bool

-- nothing was written: the pages are the same, and power lost left at no moment what it could not leave before
pub record IsUnwritten {F : Type 0} (device : Flash F) (old new : F) : Type 0 where
  pub pages : device.pages new ≡ device.pages old
  pub moments : LeavesOnly device old new (device.may_leave old)

-- the pages of a device are no card's, and nothing was written
pub record IsNoCard {F : Type 0} (device : Flash F) (old new : F) : Type 0 where
  pub none : (registry : Registry) → Reopens (device.pages old) registry → ⊥
  pub unwritten : IsUnwritten device old new

-- Why a device is not mounted: memory was wanted before any call on it, it failed, or its pages hold no registry.
abbrev pub OpenFails : {F : Type 0} → Flash F → F → OpenCause → F → Type 0
OpenFails device old (Memory refused) new = new ≡ old
OpenFails device old FlashFailed new = Rose (device.faults old) (device.faults new)
OpenFails device old NotACard new = device.tells → IsNoCard device old new

-- Why slots are not read: the device failed, or one of them holds nothing that a card has.
abbrev pub SlotsFail : Type 0 → ℕ → ℕ → Type 0 → OpenCause → Type 0
SlotsFail tells before now bad (Memory refused) = ⊥
SlotsFail tells before now bad FlashFailed = Rose before now
SlotsFail tells before now bad NotACard = tells → bad

-- the cause of a store that is not mounted, as that of a card
abbrev pub opened_cause : MountCause → OpenCause
opened_cause (mount.Memory refused) = Memory refused
opened_cause mount.FlashFailed = FlashFailed
opened_cause mount.BadJournal = NotACard

-- Why the tables of a card are not read: the device failed, or its pages hold no registry.
abbrev pub CardFails : {F : Type 0} → Flash F → F → OpenCause → F → Type 0
CardFails device old (Memory refused) new = ⊥
CardFails device old FlashFailed new = Rose (device.faults old) (device.faults new)
CardFails device old NotACard new = device.tells → IsNoCard device old new
