-- Which registry pages hold.
use Rattle.std.specs.Prelude.{◌≡◌, ◌⊎◌, ℕ, ◌≤◌, ◌++◌, List, [], Option, None, Contains, All, false, take, replicate, nat_lt, slice_index, if◌then◌else◌}
use Rattle.card_check.specs.IsCard.{IsCardOf, pages_named}
use Rattle.card_types.specs.Registry.{Registry}
use Rattle.card_types.specs.Represents.{things_in}
use Rattle.card_types.specs.declared.tables.Tables.{Tables}
use Rattle.flash_core.specs.declared.flash.Flash.{Ghosts as Flash}
use Rattle.flash_core.specs.declared.page.Page.{Page}
use Rattle.frame_pool.specs.Staged.{staged_at}
use Rattle.page_journal.specs.Journal.{HasValidJournal, bytes_of, is_open, stored_page}
use Rattle.page_journal.specs.Moments.{Always, Leaves, current}
use Rattle.page_journal.specs.declared.pages.TheConstants.{FIRST_LOAD_PAGE, STORE_PAGES}
use Rattle.rec_store.specs.StoreLayout.{layout_code}
use Rattle.rec_store.specs.StoredTables.{HoldsTables}
use Rattle.rec_store.specs.declared.store_layout.Layout.{Layout}
use Rattle.rec_store.specs.declared.store_layout.Layout.TheVariants.{Third}

-- Store pages and load pages hold a registry: the store pages hold tables that are those of a card with it, in one of the
-- layouts.
pub record HoldsRegistry (store load : ℕ → List ℕ) (registry : Registry) : Type 0 where
  pub layout : Layout
  pub tables : Tables
  pub held : HoldsTables layout store tables
  pub card : IsCardOf load tables registry

-- the bytes of a store page in a list of pages
abbrev pub store_in : (ℕ → Option Page) → ℕ → List ℕ
store_in list number = bytes_of (list number)

-- The 256 bytes of a load page in a list of pages. There are zeros where no load page is: under a number below the
-- first, and in a list that lacks one, as that of no device does.
abbrev pub load_in : (ℕ → Option Page) → ℕ → List ℕ
load_in list number = take 256 ((if nat_lt number FIRST_LOAD_PAGE then [] else bytes_of (list number)) ++ replicate 256 0)

-- the bytes of a store page of a device, an open journal applied
abbrev pub store_page : List Page → ℕ → List ℕ
store_page pages = store_in (stored_page pages)

abbrev pub load_page : List Page → ℕ → List ℕ
load_page pages = load_in (stored_page pages)

-- the number of this layout is in the superblock
abbrev pub IsInLayout : Layout → List Page → Type 0
IsInLayout layout pages = slice_index (store_page pages 0) 4 ≡ layout_code layout

-- there is nothing to write when they are mounted: no commit was cut off, and the layout is the present one
pub record IsAtRest (pages : List Page) : Type 0 where
  pub closed : is_open pages ≡ false
  pub layout : IsInLayout Third pages

-- the bytes of a store page, with staged pages in their places
abbrev pub current_page : List (ℕ × Page) → List Page → ℕ → List ℕ
current_page staged pages = store_in (current staged pages)

-- no load page is staged
abbrev pub NoLoadPage : List (ℕ × Page) → Type 0
NoLoadPage pool = (number : ℕ) → STORE_PAGES ≤ number → staged_at pool number ≡ None

-- after a power loss that left these pages the card has this registry
pub record Reopens (pages : List Page) (registry : Registry) : Type 0 where
  pub sound : HasValidJournal pages
  pub holds : HoldsRegistry (store_page pages) (load_page pages) registry

-- After a power loss that left these pages the card has one of these registries.
abbrev pub ReopensAsOne : List Registry → List Page → Type 0
ReopensAsOne registries pages = (registry : Registry) × Contains registries registry × Reopens pages registry

-- no Executable Load File has this load page
abbrev pub IsFree : Tables → ℕ → Type 0
IsFree tables page = All (λ file. Contains (pages_named file) page → ⊥) (things_in tables.files.items)

-- no Executable Load File of the tables that the device holds has this load page
abbrev pub IsSpare : {F : Type 0} → Flash F → F → ℕ → Type 0
IsSpare device flash page = (layout : Layout) (tables : Tables) → HoldsTables layout (store_page (device.pages flash)) tables → IsFree tables page

-- each load page that is free by these tables is spare
abbrev pub AreSpare : {F : Type 0} → Flash F → F → Tables → Type 0
AreSpare device flash tables = (page : ℕ) → IsFree tables page → IsSpare device flash page

-- Of pages and what power lost now may leave: it leaves this registry: all store pages stand, and all load pages that its files have.
pub record KeepsPages (pages : List Page) (may_leave : List Page → Type 0) (registry : Registry) : Type 0 where
  pub reopens : Always may_leave (λ outcome. Reopens outcome registry)
  pub now : Reopens pages registry
  pub loose : List ℕ
  pub leaves : Always may_leave (Leaves (stored_page pages) loose)
  pub free : (page : ℕ) → Contains loose page → IsFree now.holds.tables page

-- The pages of a device, with what power lost now may leave of them, keep this registry.
abbrev pub KeepsRegistry : {F : Type 0} → Flash F → F → Registry → Type 0
KeepsRegistry device flash registry = KeepsPages (device.pages flash) (device.may_leave flash) registry

-- after a power loss that left these pages the card has one registry or the other
abbrev pub ReopensEither : Registry → Registry → List Page → Type 0
ReopensEither before after pages = Reopens pages before ⊎ Reopens pages after
