-- `send HEX` and `bad HEX` send a command in the session (GlobalPlatform Amendment D, 6.2).
use Rattle.std.specs.Prelude.{◌≡◌, ℕ, List, [], ◌∷◌, Option, Ok}
use Rattle.hex.specs.Hex.{decode_of}
use Rattle.apdu_core.specs.Apdu.{Apdu, Short}
use Rattle.script_lines.specs.declared.plain.Plain.{Plain}
use Rattle.script_lines.specs.Command.{plain_command}

-- the command, of class 80, with some Le or none
abbrev pub apdu_with : Plain → Option ℕ → Apdu
apdu_with c le = record { class = 0x80; ins = c.ins; p1 = c.p1; p2 = c.p2; body = c.body.items; le = le }

-- a short command of class 80, whose Le is dropped
abbrev pub IsPlain : List ℕ → Plain → Type 0
IsPlain bytes c = (le : Option ℕ) × Short (apdu_with c le) bytes

unfoldable pub SpellsPlain : List ℕ → Plain → Type 0
SpellsPlain word c = (bytes : List ℕ) × (decode_of word ≡ Ok bytes) × IsPlain bytes c

abbrev pub SaysSend : List (List ℕ) → Plain → Type 0
SaysSend (command ∷ []) c = SpellsPlain command c
SaysSend _ c = ⊥

-- the command without its Le
abbrev pub command_of_plain : Plain → Apdu
command_of_plain c = plain_command c.ins c.p1 c.p2 c.body.items
