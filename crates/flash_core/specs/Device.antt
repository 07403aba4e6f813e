-- What the calls of a flash device do to its pages, and what power lost may leave of them.
-- A write is whole only after a sync that answered `Ok`. Until then power lost may leave any bytes in the pages
-- written since the last such sync; all other pages stay.
use Rattle.std.specs.Prelude.{◌≡◌, ◌≢◌, ◌⊎◌, ℕ, ◌≤◌, List, length, slice_get}
use Rattle.flash_core.specs.declared.page.Page.{Page}

-- all pages but one are the same
pub record SameBut (page : ℕ) (old new : List Page) : Type 0 where
  pub count : length new ≡ length old
  pub others : (other : ℕ) → other ≢ page → slice_get new other ≡ slice_get old other

-- each outcome that is possible now was possible before
abbrev pub NoneNew : (List Page → Type 0) → (List Page → Type 0) → Type 0
NoneNew old new = (outcome : List Page) → new outcome → old outcome

-- each outcome that is possible now is one that was possible before, with any bytes in that page
abbrev pub AnyBytesIn : ℕ → (List Page → Type 0) → (List Page → Type 0) → Type 0
AnyBytesIn page old new = (outcome : List Page) → new outcome → (before : List Page) × old before × SameBut page before outcome

-- power lost leaves these pages and no others
abbrev pub Only : List Page → (List Page → Type 0) → Type 0
Only pages outcomes = (outcome : List Page) → outcomes outcome → outcome ≡ pages

-- Time goes on: power lost since a moment might have left what it might have left before, or what it may leave now.
pub record Elapses (before now : ℕ) (past since : ℕ → List Page → Type 0) (may_leave : List Page → Type 0) : Type 0 where
  pub later : before ≤ now
  pub nothing_else : (t : ℕ) (outcome : List Page) → t ≤ before → since t outcome → past t outcome ⊎ may_leave outcome
  pub keeps : (t : ℕ) (outcome : List Page) → t ≤ before → past t outcome → since t outcome
