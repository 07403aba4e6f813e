-- For the code inside. Lines of domains by slots.
use Rattle.std.specs.Prelude.{◌≡◌, ℕ, List, Option, Some}
use Rattle.card_types.specs.Hierarchy.{IsLine}
use Rattle.card_types.specs.Represents.{domain_slot, thing_in}
use Rattle.card_types.specs.declared.tables.Entry.{Entry}

-- each entry has a line up to a root, which is its own domain
abbrev pub IsFreeOfLoops : List (Option Entry) → Type 0
IsFreeOfLoops entries = (slot : ℕ) (entry : Entry) → thing_in entries slot ≡ Some entry → (line : List ℕ) × IsLine (domain_slot entries) slot line
