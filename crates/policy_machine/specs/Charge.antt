-- What a security domain has power over (GlobalPlatform Card Specification 2.3.1, 7.2 and 9.1.3).
use Rattle.std.specs.Prelude.{◌≡◌, ◌⊎◌, ℕ, List, Bool, true, false, Option, None, Some, MatchOption, IsSome}
use Rattle.card_types.specs.Privileges.{has}
use Rattle.card_types.specs.Registry.{Entry, LoadFile, Registry, entry_named, file_named}
use Rattle.domain_tree.specs.Above.{IsAboveIn}

-- it is an entry that holds the privilege
abbrev pub is_privileged : ℕ → Option Entry → Bool
is_privileged privilege None = false
is_privileged privilege (Some entry) = has privilege entry.privileges

-- the entry with this AID holds it
abbrev pub HoldsPrivilege : Registry → ℕ → List ℕ → Type 0
HoldsPrivilege registry privilege aid = is_privileged privilege (entry_named registry aid) ≡ true

-- the one domain is the other, or above it
abbrev pub IsAtOrAbove : Registry → List ℕ → List ℕ → Type 0
IsAtOrAbove registry a b = (b ≡ a) ⊎ IsAboveIn registry a b

-- an Executable Load File is in the charge of its own domain and of those above that
abbrev pub IsFileInCharge : Registry → List ℕ → LoadFile → Type 0
IsFileInCharge registry domain file = IsAtOrAbove registry domain file.domain

-- A thing is in the charge of a domain: an entry below the domain, or an Executable Load File in its charge.
abbrev pub IsInCharge : Registry → List ℕ → List ℕ → Type 0
IsInCharge registry domain aid =
    (IsSome (entry_named registry aid) × IsAboveIn registry domain aid)
    ⊎ MatchOption (file_named registry aid) ⊥ (IsFileInCharge registry domain)
