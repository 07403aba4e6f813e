-- For the code inside. What contracts see of a store, and what it keeps.
use Rattle.std.specs.Prelude.{◌≡◌, ◌⊎◌, ℕ, ◌<◌, ◌≤◌, Bool, true, List, Option, Some, is_some, IfSome, slice_get}
use Rattle.faults.specs.Faults.{Rose}
use Rattle.flash_core.specs.declared.flash.Flash.{Ghosts as Flash}
use Rattle.flash_core.specs.declared.page.Page.{Page}
use Rattle.page_journal.specs.declared.cause.MountCause.{MountCause}
use Rattle.page_journal.specs.declared.cause.MountCause.TheVariants.{Memory, FlashFailed, BadJournal}
use Rattle.page_journal.specs.Journal.{is_open, descriptor, IsValid, stored_page}
use Rattle.page_journal.specs.Moments.{Always}
use Rattle.page_journal.specs.Pages.{IsStorePage}
use Rattle.page_journal.specs.declared.pages.TheConstants.{DESCRIPTOR, FIRST_LOAD_PAGE}

-- the device, the staged pages, whether the gate that was open at `mount` is closed, and whether no call has failed
pub record Store (F : Type 0) : Type 0 where
  pub flash : F
  pub staged : List (ℕ × Page)
  pub settled : Bool
  pub live : Bool

-- the pages below the load pages are the same
abbrev pub SameBelow : List Page → List Page → Type 0
SameBelow old new = (page : ℕ) → page < FIRST_LOAD_PAGE → slice_get new page ≡ slice_get old page

-- what was read of the journal is what stands there
pub record HasJournal (pages : List Page) (journal : Option Page) : Type 0 where
  pub gate : is_open pages ≡ is_some journal
  pub named : IfSome journal (λ page. slice_get pages DESCRIPTOR ≡ Some page)

-- Between two calls nothing below the load pages is pending, and the journal is as it was read.
pub record IsCalm (pages : List Page) (may_leave : List Page → Type 0) (journal : Option Page) : Type 0 where
  pub calm : Always may_leave (SameBelow pages)
  pub as_read : HasJournal pages journal

-- only store pages are staged
abbrev pub AreStorePages : List (ℕ × Page) → Type 0
AreStorePages pages = (i : ℕ) (entry : ℕ × Page) → slice_get pages i ≡ Some entry → IsStorePage entry.0

-- the pages of a device stand for this list
abbrev pub StandsForList : (ℕ → Option Page) → List Page → Type 0
StandsForList list pages = (page : ℕ) → IsStorePage page ⊎ (FIRST_LOAD_PAGE ≤ page) → stored_page pages page ≡ list page

-- Why a device is not mounted: it failed, or the gate is open before a descriptor that has no valid form.
abbrev pub CauseHolds : Type 0 → ℕ → ℕ → List Page → MountCause → Type 0
CauseHolds tells before now pages (Memory refused) = ⊥
CauseHolds tells before now pages FlashFailed = Rose before now
CauseHolds tells before now pages BadJournal = tells → (is_open pages ≡ true) × (IsValid (descriptor pages) → ⊥)

-- A device is not mounted for one of these causes, or memory was wanted before any call on the device.
abbrev pub MountFails : {F : Type 0} → Flash F → F → MountCause → F → Type 0
MountFails device old (Memory refused) new = new ≡ old
MountFails device old FlashFailed new = Rose (device.faults old) (device.faults new)
MountFails device old BadJournal new = device.tells → (is_open (device.pages old) ≡ true) × (IsValid (descriptor (device.pages old)) → ⊥)
