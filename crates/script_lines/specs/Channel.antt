-- `channel N` chooses a logical channel (GlobalPlatform Card Specification 2.3.1, 11.1.4).
use Rattle.std.specs.Prelude.{◌≡◌, ◌+◌, ℕ, List, [], ◌∷◌}
use Rattle.script_lines.specs.declared.channel.Channel.{Channel}
use Rattle.script_lines.specs.declared.channel.Channel.TheVariants.{Basic, First, Second, Third}

abbrev pub channel_number : Channel → ℕ
channel_number Basic = 0
channel_number First = 1
channel_number Second = 2
channel_number Third = 3

-- its number, as one decimal digit
abbrev pub SaysChannel : List (List ℕ) → Channel → Type 0
SaysChannel (number ∷ []) c = number ≡ (48 + channel_number c) ∷ []
SaysChannel _ c = ⊥
