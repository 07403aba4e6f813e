-- For the code inside. Domains that hold privileges, by slots.
use Rattle.std.specs.Prelude.{ℕ, ◌==◌, ◌&&◌, List, Bool, false, Option, None, Some}
use Rattle.std.specs.Int.{bit_at}
use Rattle.card_types.specs.Privileges.{bits_of, has}
use Rattle.card_types.specs.Represents.{domain_slot, thing_in}
use Rattle.card_types.specs.declared.privileges.Privileges.{Privileges}
use Rattle.card_types.specs.declared.tables.Entry.{Entry}
use Rattle.domain_tree.specs.Above.{IsFirstAbove, NoneAbove}

abbrev pub entry_has : Privileges → Option Entry → Bool
entry_has right None = false
entry_has right (Some entry) = has (bits_of right) entry.privileges

-- the entry in the slot has the privileges, and the bit with the slot's number is set
abbrev pub is_holder : List (Option Entry) → Privileges → ℕ → ℕ → Bool
is_holder entries right holders slot = entry_has right (thing_in entries slot) && bit_at holders slot == 1

-- the first holder above a slot, and that there is none
abbrev pub IsNearest : List (Option Entry) → Privileges → ℕ → ℕ → ℕ → Type 0
IsNearest entries right holders from = IsFirstAbove (domain_slot entries) (is_holder entries right holders) from

abbrev pub NoHolderAbove : List (Option Entry) → Privileges → ℕ → ℕ → Type 0
NoHolderAbove entries right holders from = NoneAbove (domain_slot entries) (is_holder entries right holders) from
