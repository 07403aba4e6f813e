-- Load files in slots, and the load files that the registry has by names.
use Rattle.std.proofs.Common.{◌≡◌, ℕ, Bool, List, None, Some}
use Rattle.std.specs.Prelude.{find}
use Rattle.card_types.specs.Aid.{same_aid, aid_order}
use Rattle.card_types.specs.Search.{IsLeast, NoneFits}
use Rattle.card_types.specs.Registry as registry
use Rattle.card_types.specs.Registry.{file_named}
use Rattle.card_types.specs.Represents.{Represents, file_of, thing_in}
use Rattle.card_types.specs.declared.tables.LoadFile.{LoadFile}
use Rattle.card_types.specs.declared.tables.Tables.{Tables}
use Rattle.card_types.proofs.NamesByAid.{aid_in_slot, slot_of_aid, one_slot_of_aid, least_aid, no_aid}

module _ (page : ℕ → List ℕ) (tables : Tables) (said : registry.Registry) (says : Represents page tables said) where
  abbrev view : LoadFile → registry.LoadFile
  view file = file_of page tables.entries.items file

  abbrev name : registry.LoadFile → List ℕ
  name file = file.aid

  pub file_in_slot : (slot : ℕ) (file : LoadFile) → thing_in tables.files.items slot ≡ Some file
      → file_named said file.aid ≡ Some (file_of page tables.entries.items file)
  file_in_slot slot file at = aid_in_slot view name tables.files.items said.files says.files says.ascending.files slot file at

  pub slot_of_file : (aid : List ℕ) (named : registry.LoadFile) → file_named said aid ≡ Some named
      → (slot : ℕ) × (file : LoadFile) × (thing_in tables.files.items slot ≡ Some file)
      × (file_of page tables.entries.items file ≡ named) × (file.aid ≡ aid)
  slot_of_file aid named found = slot_of_aid view name tables.files.items said.files says.files says.ascending.files aid named found

  -- no two slots have the same AID
  pub one_file_slot : (a b : ℕ) (x y : LoadFile) → thing_in tables.files.items a ≡ Some x → thing_in tables.files.items b ≡ Some y
      → x.aid ≡ y.aid → a ≡ b
  one_file_slot a b x y at_a at_b alike =
      one_slot_of_aid view name tables.files.items said.files says.files says.ascending.files a b x y at_a at_b alike

  pub least_file : (p : registry.LoadFile → Bool) (slot : ℕ) (file : LoadFile)
      → IsLeast (λ f. p (file_of page tables.entries.items f)) (λ x y. aid_order x.aid y.aid) tables.files.items slot file
      → find p said.files ≡ Some (file_of page tables.entries.items file)
  least_file p slot file is =
      least_aid view name tables.files.items said.files says.files says.ascending.files p slot file
      (record { at = is.at; fitting = is.fitting; least = is.least })

  pub no_file : (p : registry.LoadFile → Bool) → NoneFits (λ f. p (file_of page tables.entries.items f)) tables.files.items
      → find p said.files ≡ None
  no_file p none = no_aid view name tables.files.items said.files says.files says.ascending.files p none

  pub file_unnamed : (aid : List ℕ) → NoneFits (λ f. same_aid f.aid aid) tables.files.items → file_named said aid ≡ None
  file_unnamed aid none = no_file (λ named. same_aid named.aid aid) none
