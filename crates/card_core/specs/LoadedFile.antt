-- For the code inside. What comes of an Executable Load File that is added.
use Rattle.std.specs.Prelude.{ℕ, List, [], ◌∷◌, Option, IfSome}
use Rattle.card_types.specs.Registry.{Registry}
use Rattle.card_types.specs.RegistryChange.{IsFileAdded}
use Rattle.card_types.specs.Represents.{domain_aid, file_of}
use Rattle.card_types.specs.declared.tables.LoadFile.{LoadFile}
use Rattle.card_types.specs.declared.tables.Tables.{Tables}
use Rattle.policy_machine.specs.Admission.{Admitted}
use Rattle.policy_slots.specs.StateShown.{ActsIn}
use Rattle.policy_slots.specs.HoldersFound.{IsReceipterIn}
use Rattle.card_core.specs.Confirms.{AnswersFor}

-- Each command that acts for a domain, and whose registry the tables said, is answered about a file that is added, and its domain; the tables
-- say the registry that is left.
abbrev pub AddsLoaded : Tables → Tables → LoadFile → Option ℕ → List ℕ → Type 0
AddsLoaded tables tables' file receipter body =
    (page : ℕ → List ℕ) (admitted : Admitted) (domain : ℕ) → ActsIn page tables domain admitted → IfSome receipter (IsReceipterIn tables admitted)
    → (changed : Registry) × IsFileAdded (file_of page tables.entries.items file) admitted.at.registry changed
    × AnswersFor page tables' receipter admitted (file.aid ∷ domain_aid tables.entries.items file.domain ∷ []) changed body
