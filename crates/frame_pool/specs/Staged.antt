-- For the code inside. A list of staged pages: the number of each, and its bytes.
use Rattle.std.specs.Prelude.{◌≡◌, ℕ, zero, suc, if◌then◌else◌, ◌==◌, List, [], ◌∷◌, Option, None, Some, slice_get}
use Rattle.flash_core.specs.declared.page.Page.{Page}

-- the page with this number, where it is staged
abbrev pub staged_at : List (ℕ × Page) → ℕ → Option Page
staged_at [] number = None
staged_at (first ∷ rest) number = if first.0 == number then Some first.1 else staged_at rest number

-- the list with this page in its place, or after the others where it was not staged
abbrev pub with_page : List (ℕ × Page) → ℕ → Page → List (ℕ × Page)
with_page [] number page = (number, page) ∷ []
with_page (first ∷ rest) number page = if first.0 == number then (number, page) ∷ rest else first ∷ with_page rest number page

-- the list with other bytes at a place
abbrev pub with_bytes_at : List (ℕ × Page) → ℕ → Page → List (ℕ × Page)
with_bytes_at [] at page = []
with_bytes_at (first ∷ rest) zero page = (first.0, page) ∷ rest
with_bytes_at (first ∷ rest) (suc at) page = first ∷ with_bytes_at rest at page

-- no page is staged twice
abbrev pub AreDistinct : List (ℕ × Page) → Type 0
AreDistinct pages = (i j : ℕ) (a b : ℕ × Page) → slice_get pages i ≡ Some a → slice_get pages j ≡ Some b → a.0 ≡ b.0 → i ≡ j
