-- Load pages that are to be written, and what load pages hold then.
use Rattle.std.specs.Prelude.{◌≡◌, ◌==◌, ℕ, List, [], ◌∷◌, ◌++◌, All, Contains, if◌then◌else◌, length, map}
use Rattle.card_types.specs.declared.tables.Tables.{Tables}
use Rattle.load_session.specs.Pages.{AreOwn}
use Rattle.load_session.specs.declared.load_write.LoadWrite.{LoadWrite}

-- load pages with one written
abbrev pub page_written : (ℕ → List ℕ) → LoadWrite → ℕ → List ℕ
page_written page write number = if number == write.number then write.page.bytes else page number

-- load pages with each of these written, one after the other
abbrev pub pages_after : (ℕ → List ℕ) → List LoadWrite → ℕ → List ℕ
pages_after page [] = page
pages_after page (write ∷ rest) = pages_after (page_written page write) rest

-- the numbers of the pages that are written
abbrev pub numbers : List LoadWrite → List ℕ
numbers writes = map (λ write. write.number) writes

-- the write is of 256 bytes
abbrev pub IsWholePage : LoadWrite → Type 0
IsWholePage write = length write.page.bytes ≡ 256

-- load pages that no file of the tables names, none twice, and none of them taken before
pub record AreNewPages (tables : Tables) (taken : List ℕ) (writes : List LoadWrite) : Type 0 where
  pub own : AreOwn tables (numbers writes)
  pub apart : All (λ page. Contains taken page → ⊥) (numbers writes)
  pub whole : All IsWholePage writes

-- the pages are those that were taken, and after them those that are to be written
pub record AreTaken (tables : Tables) (taken pages : List ℕ) (writes : List LoadWrite) : Type 0 where
  pub new : AreNewPages tables taken writes
  pub pages_are : pages ≡ taken ++ numbers writes
