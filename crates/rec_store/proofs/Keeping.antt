-- Key slots that are free, and the pages of those that are changed.
use Rattle.std.proofs.Common.{◌≡◌, ℕ, zero, suc, ◌/◌, ◌<◌, List, Option, None, length, refl, ap, arith}
use Rattle.std.specs.Prelude.{All, Contains, replicate}
use Rattle.std.proofs.lemmas.List.Elements.{All-nil}
use Rattle.std.proofs.lemmas.List.FromFn.{get_or-range_with_len}
use Rattle.card_types.specs.Represents.{things_in}
use Rattle.card_types.specs.declared.limits.TheConstants.{KEYS}

-- `count` free slots, and all that they hold
abbrev free_slots : {T : Type 0} → ℕ → List (Option T)
free_slots count = replicate count None

pub free_keys : {T : Type 0} (P : T → Type 0) (count : ℕ) → (length (free_slots {T = T} count) ≡ count) × All P (things_in (free_slots {T = T} count))
free_keys P zero = (refl, All-nil P)
free_keys P (suc count) = (let rest = free_keys P count in (ap suc rest.0, rest.1))
