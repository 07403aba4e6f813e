-- `open VV LL CHALLENGE` begins a session (GlobalPlatform Amendment D, 7.1.1, 7.1.2).
use Rattle.std.specs.Prelude.{ℕ, List, [], ◌∷◌}
use Rattle.script_lines.specs.Words.{SpellsByte, SpellsLevel, SpellsSome}
use Rattle.script_lines.specs.declared.opening.Opening.{Opening}

-- the key version number, the security level and the host challenge of 8 bytes
abbrev pub SaysOpen : List (List ℕ) → Opening → Type 0
SaysOpen (version ∷ level ∷ challenge ∷ []) o = SpellsByte version o.version × SpellsLevel level o.level × SpellsSome 8 challenge o.challenge
SaysOpen _ o = ⊥
