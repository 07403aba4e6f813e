-- The bytes of an Executable Load File that comes: in load pages, and the last ones in memory.
use Rattle.std.specs.Prelude.{ℕ, ◌+◌, ◌-◌, ◌*◌, ◌<◌, ◌≤◌, List, ◌++◌, length, map, replicate}
use Rattle.std.specs.List.{concat}
use Rattle.card_types.specs.Well.{pages_of}
use Rattle.card_types.specs.declared.limits.TheConstants.{FILE_LIMIT, LOAD_PAGES}
use Rattle.card_types.specs.declared.tables.Tables.{Tables}
use Rattle.load_session.specs.Pages.{AreOwn, pages_in}
use Rattle.load_session.specs.declared.paged.PagedBytes.{PagedBytes}

-- how many bytes there are, and which
abbrev pub size_of : PagedBytes → ℕ
size_of paged = 256 * length paged.pages.items + length paged.rest.items

abbrev pub bytes_in : (ℕ → List ℕ) → PagedBytes → List ℕ
bytes_in page paged = concat (map page paged.pages.items) ++ paged.rest.items

-- bytes with zeros after them, as many as a page has
abbrev pub padded_page : List ℕ → List ℕ
padded_page bytes = bytes ++ replicate (256 - length bytes) 0

-- the pages are its own, and no page is full that is not written
pub record IsOpen (tables : Tables) (paged : PagedBytes) : Type 0 where
  pub own : AreOwn tables paged.pages.items
  pub part : length paged.rest.items < 256

-- there is room for so many bytes more
pub record HasLoadRoom (tables : Tables) (paged : PagedBytes) (more : ℕ) : Type 0 where
  pub limit : size_of paged + more ≤ FILE_LIMIT
  pub pages : pages_in tables + pages_of (size_of paged + more) ≤ LOAD_PAGES
