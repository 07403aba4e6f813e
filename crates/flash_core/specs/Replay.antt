-- For the code inside. A device in memory as the calls that it took: its pages as read, and which of them power lost may tear.
use Rattle.std.specs.Prelude.{◌≡◌, ◌≢◌, ◌<◌, Bool, true, false, ℕ, List, [], ◌∷◌, Some, length, replicate, slice_get, slice_set}
use Rattle.flash_core.specs.declared.page.TheConstants.{PAGES}
use Rattle.flash_core.specs.declared.page.Page.{Page}
use Rattle.flash_core.specs.declared.memory.Call.{Call}
use Rattle.flash_core.specs.declared.memory.Call.TheVariants.{Write, Sync}

-- the pages as read, those that the last sync kept, and which pages were written since
pub record Medium : Type 0 where
  pub seen : List Page
  pub kept : List Page
  pub written : List Bool

-- nothing is pending
abbrev pub settled_medium : List Page → Medium
settled_medium pages = record { seen = pages; kept = pages; written = replicate (length pages) false }

-- the medium after one call
abbrev pub after_call : Medium → Call → Medium
after_call m (Write page content) = record m { seen = slice_set m.seen page content; written = slice_set m.written page true }
after_call m Sync = record { seen = m.seen; kept = m.seen; written = replicate (length m.written) false }

-- the medium after these calls, the first of them first
abbrev pub after_calls : Medium → List Call → Medium
after_calls m [] = m
after_calls m (call ∷ calls) = after_calls (after_call m call) calls

-- what power lost now may leave: each page that is not pending stays as it is read
pub record MayLeave (m : Medium) (outcome : List Page) : Type 0 where
  pub count : length outcome ≡ length m.seen
  pub others : (page : ℕ) → slice_get m.written page ≢ Some true → slice_get outcome page ≡ slice_get m.seen page

-- a write names one of the pages
abbrev pub IsInRange : Call → Type 0
IsInRange (Write page content) = page < PAGES
IsInRange Sync = Unit {0}
