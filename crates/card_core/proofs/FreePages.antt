-- Load pages that stay free while the registry changes.
use Rattle.std.proofs.Common.{◌≡◌, ℕ, List, Option, None, subst, sym}
use Rattle.std.specs.Prelude.{All, Contains, slice_set}
use Rattle.card_core.specs.Prelude.{KeepsFree, Moves, pages_named, things_in}
use Rattle.card_types.specs.declared.found.Found.{Found}
use Rattle.card_types.specs.declared.found.Found.TheVariants as found
use Rattle.card_types.specs.declared.tables.LoadFile.{LoadFile}
use Rattle.card_types.specs.declared.tables.Tables.{Tables}
use Rattle.card_core.proofs.EntryCards.{all_still}
use Rattle.card_core.proofs.RemovedCards.{all_left}

-- no file has the page
abbrev IsWithout : ℕ → LoadFile → Type 0
IsWithout page file = Contains (pages_named file) page → ⊥

-- the files are the same
pub files_free : (before after : Tables) → after.files.items ≡ before.files.items → KeepsFree before after
files_free before after same page free = subst (λ (slots : List (Option LoadFile)). All (IsWithout page) (things_in slots)) (sym same) free

-- one of them is gone
pub dropped_free : (before after : Tables) (slot : ℕ) → after.files.items ≡ slice_set before.files.items slot None → KeepsFree before after
dropped_free before after slot dropped page free =
    subst (λ (slots : List (Option LoadFile)). All (IsWithout page) (things_in slots)) (sym dropped) (all_left (IsWithout page) before.files.items slot free)

-- a thing has moved
pub moved_free : (before after : Tables) (thing : Found) (domain : ℕ) → Moves before after thing domain → KeepsFree before after
moved_free before after (found.Entry slot) domain moves = files_free before after moves.files
moved_free before after (found.File slot) domain moves = λ page free.
    subst (λ (slots : List (Option LoadFile)). All (IsWithout page) (things_in slots)) (sym moves.files)
    (all_still (IsWithout page) domain (λ file without. without) before.files.items slot free)

pub free_twice : (before mid after : Tables) → KeepsFree before mid → KeepsFree mid after → KeepsFree before after
free_twice before mid after first second page free = second page (first page free)
