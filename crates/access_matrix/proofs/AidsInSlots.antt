-- The AIDs of things are AIDs.
use Rattle.std.proofs.Common.{◌≡◌, ℕ, Some}
use Rattle.std.proofs.lemmas.List.Elements.{All-contains}
use Rattle.card_types.proofs.Domains.{well_entry}
use Rattle.card_types.proofs.FileNames.{file_in_slot}
use Rattle.card_types.proofs.LeastOfList.{found_fits}
use Rattle.card_types.specs.Aid.{IsAid, same_aid}
use Rattle.card_types.specs.Represents.{IsInOrder, file_of, thing_in}
use Rattle.card_types.specs.Well.{IsWellFile}
use Rattle.card_types.specs.declared.tables.Entry.{Entry}
use Rattle.card_types.specs.declared.tables.LoadFile.{LoadFile}
use Rattle.card_types.specs.declared.tables.Tables.{Tables}

module _ (tables : Tables) (order : IsInOrder tables) (slot : ℕ) where
  pub entry_has_aid : (entry : Entry) → thing_in tables.entries.items slot ≡ Some entry → IsAid entry.aid
  entry_has_aid entry at = (well_entry order.page tables order.said order.says order.well slot entry at).proper.aid

  pub file_has_aid : (file : LoadFile) → thing_in tables.files.items slot ≡ Some file → IsAid file.aid
  file_has_aid file at =
      (All-contains (IsWellFile order.said) order.said.files (file_of order.page tables.entries.items file) order.well.files
      (found_fits (λ f. same_aid f.aid file.aid) order.said.files (file_of order.page tables.entries.items file) (file_in_slot order.page tables order.said order.says slot file at)).0).aid
