-- For the code inside. Security domains in their slots.
use Rattle.std.specs.Prelude.{ℕ, List, Bool, false, Option, None, Some}
use Rattle.card_types.specs.Privileges.{has, security_domain}
use Rattle.card_types.specs.Represents.{thing_in}
use Rattle.card_types.specs.declared.tables.Entry.{Entry}

abbrev pub is_domain_held : Option Entry → Bool
is_domain_held None = false
is_domain_held (Some entry) = has security_domain entry.privileges

-- the entry in a slot is a security domain
abbrev pub is_domain_in : List (Option Entry) → ℕ → Bool
is_domain_in entries slot = is_domain_held (thing_in entries slot)
