-- For the code inside. The pages that each part of a commit touches, and what it leaves there.
use Rattle.std.specs.Prelude.{◌≡◌, ◌⊎◌, ℕ, ◌+◌, ◌<◌, ◌≤◌, List, length, Some, IsSome, slice_get, slice_index}
use Rattle.flash_core.specs.declared.page.Page.{Page}
use Rattle.frame_pool.specs.Staged.{staged_at}
use Rattle.frame_pool.specs.declared.pool.TheConstants.{FRAMES}
use Rattle.page_journal.specs.declared.pages.TheConstants.{COPIES, DESCRIPTOR}

-- the copies
abbrev pub IsCopy : ℕ → Type 0
IsCopy page = (COPIES ≤ page) × (page < COPIES + FRAMES)

-- the copies and the descriptor
abbrev pub IsRecord : ℕ → Type 0
IsRecord page = (page ≡ DESCRIPTOR) ⊎ IsCopy page

-- a page that is staged
abbrev pub IsStaged : List (ℕ × Page) → ℕ → Type 0
IsStaged pages page = IsSome (staged_at pages page)

-- the first so many staged pages have their copies
abbrev pub CopiesOf : ℕ → List (ℕ × Page) → List Page → Type 0
CopiesOf count pages device = (i : ℕ) (entry : ℕ × Page) → i < count → slice_get pages i ≡ Some entry → slice_get device (COPIES + i) ≡ Some entry.1

-- the descriptor names the staged pages in their order
pub record Names (pages : List (ℕ × Page)) (bytes : List ℕ) : Type 0 where
  pub count : slice_index bytes 0 ≡ length pages
  pub homes : (i : ℕ) (entry : ℕ × Page) → slice_get pages i ≡ Some entry → slice_index bytes (i + 1) ≡ entry.0

-- the first so many staged pages stand at home
abbrev pub HomesOf : ℕ → List (ℕ × Page) → List Page → Type 0
HomesOf count pages device = (i : ℕ) (entry : ℕ × Page) → i < count → slice_get pages i ≡ Some entry → slice_get device entry.0 ≡ Some entry.1

-- a page that the descriptor names
abbrev pub IsInDescriptor : List ℕ → ℕ → Type 0
IsInDescriptor bytes page = (i : ℕ) × (i < slice_index bytes 0) × (slice_index bytes (i + 1) ≡ page)

-- the first so many copies stand at home
abbrev pub CopiesHome : ℕ → List ℕ → List Page → List Page → Type 0
CopiesHome count bytes old new = (i : ℕ) → i < count → slice_get new (slice_index bytes (i + 1)) ≡ slice_get old (COPIES + i)
