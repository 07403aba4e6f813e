-- For the code inside. What a run of device calls may change.
use Rattle.std.specs.Prelude.{◌≡◌, ℕ, List, slice_get}
use Rattle.flash_core.specs.declared.flash.Flash.{Ghosts as Flash}
use Rattle.flash_core.specs.declared.page.Page.{Page}
use Rattle.page_journal.specs.Moments.{LeavesOnly}

-- all pages outside are the same
abbrev pub SameOutside : (ℕ → Type 0) → List Page → List Page → Type 0
SameOutside inside old new = (page : ℕ) → (inside page → ⊥) → slice_get new page ≡ slice_get old page

-- one that was possible before, with any bytes inside
abbrev pub IsTorn : (ℕ → Type 0) → (List Page → Type 0) → List Page → Type 0
IsTorn inside old outcome = (before : List Page) × old before × SameOutside inside before outcome

-- A run that touches these pages alone.
pub record Touches {F : Type 0} (device : Flash F) (inside : ℕ → Type 0) (old new : F) : Type 0 where
  pub seen : SameOutside inside (device.pages old) (device.pages new)
  pub now : (outcome : List Page) → device.may_leave new outcome → IsTorn inside (device.may_leave old) outcome
  pub moments : LeavesOnly device old new (IsTorn inside (device.may_leave old))
