-- Executable Load Files in their slots, and those of the registry past the last one.
use Rattle.std.proofs.Common.{◌≡◌, ℕ, List, Option, None, Some, refl, sym, ◌∙◌}
use Rattle.std.specs.Prelude.{find}
use Rattle.std.specs.Cmp.{IsTotalOrder}
use Rattle.std.specs.List.Sorted.{IsStrictlySortedBy}
use Rattle.std.specs.Option.{option_map}
use Rattle.std.specs.Ordering.{on}
use Rattle.std.specs.declared.cmp.Ordering.{Ordering}
use Rattle.std.proofs.lemmas.Cmp.{nat_list_cmp_total, on_total}
use Rattle.card_types.proofs.FileNames.{least_file, no_file}
use Rattle.card_types.proofs.LeastOfList.{sorted_by_name}
use Rattle.card_types.specs.Aid.{aid_order}
use Rattle.card_types.specs.Search.{IsLeast, NoneFits}
use Rattle.card_types.specs.Registry as registry
use Rattle.card_types.specs.Represents.{Represents, file_of}
use Rattle.card_types.specs.declared.tables.LoadFile.{LoadFile}
use Rattle.card_types.specs.declared.tables.Tables.{Tables}
use Rattle.gp_tool.specs.Listing.{is_next_file, is_past_last}

abbrev pub file_order : registry.LoadFile → registry.LoadFile → Ordering
file_order = on (λ (file : registry.LoadFile). file.aid) aid_order

pub file_order_total : IsTotalOrder file_order
file_order_total = on_total (λ (file : registry.LoadFile). file.aid) nat_list_cmp_total

module _ (page : ℕ → List ℕ) (tables : Tables) (said : registry.Registry) (says : Represents page tables said) where
  abbrev view : LoadFile → registry.LoadFile
  view file = file_of page tables.entries.items file

  pub files_sorted : IsStrictlySortedBy file_order said.files
  files_sorted = sorted_by_name aid_order (λ (file : registry.LoadFile). file.aid) said.files says.ascending.files

  same_past : (last : Option LoadFile) (file : LoadFile) → is_next_file last file ≡ is_past_last file_order (option_map view last) (view file)
  same_past None file = refl
  same_past (Some l) file = refl

  pub file_found : (last : Option LoadFile) (slot : ℕ) (file : LoadFile) → IsLeast (is_next_file last) (λ a b. aid_order a.aid b.aid) tables.files.items slot file
      → find (is_past_last file_order (option_map view last)) said.files ≡ Some (view file)
  file_found last slot file is =
      least_file page tables said says (is_past_last file_order (option_map view last)) slot file
      (record {
        at = is.at;
        fitting = sym (same_past last file) ∙ is.fitting;
        least = λ other another at fits. is.least other another at (same_past last another ∙ fits);
      })

  pub no_file_found : (last : Option LoadFile) → NoneFits (is_next_file last) tables.files.items
      → find (is_past_last file_order (option_map view last)) said.files ≡ None
  no_file_found last none =
      no_file page tables said says (is_past_last file_order (option_map view last)) (λ slot file at fits. none slot file at (same_past last file ∙ fits))
