-- What power lost may leave of committed pages. The layers above cite these relations, and no journal.
use Rattle.std.specs.Prelude.{◌≡◌, ◌⊎◌, ℕ, ◌≤◌, List, [], Option, None, Some, Contains}
use Rattle.flash_core.specs.declared.flash.Flash.{Ghosts as Flash}
use Rattle.flash_core.specs.declared.page.Page.{Page}
use Rattle.frame_pool.specs.Staged.{staged_at}
use Rattle.page_journal.specs.Journal.{stored_page, HasValidJournal}
use Rattle.page_journal.specs.Pages.{IsStorePage}
use Rattle.page_journal.specs.declared.pages.TheConstants.{FIRST_LOAD_PAGE}

-- A power loss leaves the committed pages of a list: all store pages, and all load pages but the loose ones. It
-- leaves any bytes in a loose page.
pub record Leaves (pages : ℕ → Option Page) (loose : List ℕ) (outcome : List Page) : Type 0 where
  pub sound : HasValidJournal outcome
  pub store : (page : ℕ) → IsStorePage page → stored_page outcome page ≡ pages page
  pub load : (page : ℕ) → FIRST_LOAD_PAGE ≤ page → (Contains loose page → ⊥) → stored_page outcome page ≡ pages page

-- whatever a power loss now leaves has P
abbrev pub Always : (List Page → Type 0) → (List Page → Type 0) → Type 0
Always may_leave P = (outcome : List Page) → may_leave outcome → P outcome

-- Whatever a power loss at any moment since old leaves has P.
pub record LeavesOnly {F : Type 0} (device : Flash F) (old new : F) (P : List Page → Type 0) : Type 0 where
  pub later : device.moment old ≤ device.moment new
  pub each : (outcome : List Page) → device.left_since new (device.moment old) outcome → P outcome
  -- for a run that began earlier
  pub before : (t : ℕ) (outcome : List Page) → t ≤ device.moment old → device.left_since new t outcome → device.left_since old t outcome ⊎ P outcome

-- the committed pages of a list, or all those of another
abbrev pub LeavesPages : (ℕ → Option Page) → List ℕ → (ℕ → Option Page) → List Page → Type 0
LeavesPages before loose after outcome = Leaves before loose outcome ⊎ Leaves after [] outcome

-- the first of the two that is there
abbrev pub first_of : Option Page → Option Page → Option Page
first_of None other = other
first_of (Some page) other = Some page

-- the list with the staged pages in their places
abbrev pub current : List (ℕ × Page) → List Page → ℕ → Option Page
current pages device page = first_of (staged_at pages page) (stored_page device page)
