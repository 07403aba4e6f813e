-- Tables that a card may be trusted with, over load pages of 256 bytes.
use Rattle.std.specs.Prelude.{◌≡◌, ℕ, ◌≤◌, List, MatchOption, All, length, map, nat_eq, take}
use Rattle.std.specs.List.{IsDistinct, concat}
use Rattle.card_types.specs.Represents.{HasLayout, Represents, things_in, thing_in}
use Rattle.card_types.specs.Registry.{Registry}
use Rattle.card_types.specs.Well.{Well, pages_of}
use Rattle.card_types.specs.declared.factory.TheConstants.{FACTORY_FILE}
use Rattle.card_types.specs.declared.limits.TheConstants.{FILE_LIMIT}
use Rattle.card_types.specs.declared.tables.LoadFile.{LoadFile}
use Rattle.card_types.specs.declared.tables.Tables.{Tables}
use Rattle.page_journal.specs.Pages.{IsLoadPage}

-- the numbers of the pages that hold an Executable Load File
abbrev pub pages_named : LoadFile → List ℕ
pages_named file = take (pages_of file.len) file.pages

-- the file is no longer than one may be, and its pages are load pages
pub record IsInLoadPages (file : LoadFile) : Type 0 where
  pub size : file.len ≤ FILE_LIMIT
  pub pages : All IsLoadPage (pages_named file)

-- each page has 256 bytes
abbrev pub HasPages : (ℕ → List ℕ) → Type 0
HasPages page = (number : ℕ) → length (page number) ≡ 256

-- The tables lay out this registry, which a card may have: the Issuer Security Domain and the factory's Executable Load File
-- are in the first slots, and no load page is named twice.
pub record IsCardOf (page : ℕ → List ℕ) (tables : Tables) (registry : Registry) : Type 0 where
  pub layout : HasLayout tables
  pub factory_file : MatchOption (thing_in tables.files.items 0) ⊥ (λ file. (file.aid ≡ FACTORY_FILE) × (file.len ≡ 0))
  pub files : All IsInLoadPages (things_in tables.files.items)
  pub apart : IsDistinct nat_eq (concat (map pages_named (things_in tables.files.items)))
  pub says : Represents page tables registry
  pub well : Well registry

-- the tables lay out a registry that a card may have
pub record IsCard (page : ℕ → List ℕ) (tables : Tables) : Type 0 where
  pub said : Registry
  pub of : IsCardOf page tables said
