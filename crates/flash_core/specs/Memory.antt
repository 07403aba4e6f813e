-- For the code inside. What a device in memory stands for: the pages that it began with, and its list of writes and syncs since.
use Rattle.std.specs.Prelude.{◌≡◌, ℕ, ◌+◌, ◌%◌, ◌^◌, ◌≤◌, Bool, true, false, if◌then◌else◌, ◌==◌, List, Some, length, take, replicate, slice_get}
use Rattle.flash_core.specs.declared.page.Page.{Page}
use Rattle.flash_core.specs.declared.memory.Call.{Call}
use Rattle.flash_core.specs.Replay.{Medium, settled_medium, after_calls, MayLeave}

pub record MemoryFlash : Type 0 where
  pub first : List Page
  pub calls : List Call
  pub room : ℕ
  pub faults : ℕ

-- the medium after the calls so far
abbrev pub medium : MemoryFlash → Medium
medium m = after_calls (settled_medium m.first) m.calls

-- the medium after the first of them
abbrev pub medium_at : MemoryFlash → ℕ → Medium
medium_at m moment = after_calls (settled_medium m.first) (take moment m.calls)

-- power lost at some moment since that one might have left these pages
pub record LeftSince (m : MemoryFlash) (since : ℕ) (outcome : List Page) : Type 0 where
  pub moment : ℕ
  pub later : since ≤ moment
  pub past : moment ≤ length m.calls
  pub left : MayLeave (medium_at m moment) outcome

-- a page with the same byte throughout
abbrev pub uniform_page : ℕ → Page
uniform_page byte = record { bytes = replicate 256 byte }

-- What a power cut with this seed leaves of a page: a written one comes back as the last sync kept it, or stays as it
-- was written last, or is torn.
abbrev pub cut_page : ℕ → ℕ → Page → Page → Bool → Page
cut_page seed page seen kept false = seen
cut_page seed page seen kept true =
    let way = ((seed + page) % 2 ^ 64) % 3 in
    if way == 0 then kept else (if way == 1 then seen else uniform_page (((seed + page) % 2 ^ 64) % 256))

-- a power cut with this seed leaves these pages
pub record CutBy (seed : ℕ) (m : Medium) (pages : List Page) : Type 0 where
  pub count : length pages ≡ length m.seen
  pub each : (page : ℕ) (seen kept : Page) (written : Bool) → slice_get m.seen page ≡ Some seen → slice_get m.kept page ≡ Some kept
      → slice_get m.written page ≡ Some written → slice_get pages page ≡ Some (cut_page seed page seen kept written)
