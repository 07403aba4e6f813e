-- Load pages that an Executable Load File takes while it comes.
use Rattle.std.specs.Prelude.{ℕ, ◌⊎◌, List, All, Contains, nat_eq}
use Rattle.std.specs.List.{IsDistinct, sum_by}
use Rattle.card_check.specs.IsCard.{pages_named}
use Rattle.page_journal.specs.Pages.{IsLoadPage}
use Rattle.card_types.specs.Represents.{things_in}
use Rattle.card_types.specs.Well.{pages_of}
use Rattle.card_types.specs.declared.tables.LoadFile.{LoadFile}
use Rattle.card_types.specs.declared.tables.Tables.{Tables}
use Rattle.rec_store.specs.Reopens.{IsFree}

-- how many load pages the Executable Load Files of the tables take
abbrev pub pages_in : Tables → ℕ
pages_in tables = sum_by (λ (file : LoadFile). pages_of file.len) (things_in tables.files.items)

-- an Executable Load File of the tables names the page
abbrev pub IsPageNamed : Tables → ℕ → Type 0
IsPageNamed tables page = (file : LoadFile) × Contains (things_in tables.files.items) file × Contains (pages_named file) page

-- it does, or the page is one of these
abbrev pub IsPageInUse : Tables → List ℕ → ℕ → Type 0
IsPageInUse tables taken page = IsPageNamed tables page ⊎ Contains taken page

-- load pages that no Executable Load File of the tables names, and none of them twice
pub record AreOwn (tables : Tables) (pages : List ℕ) : Type 0 where
  pub range : All IsLoadPage pages
  pub apart : IsDistinct nat_eq pages
  pub free : All (IsFree tables) pages
