-- What goes over a pair of streams: commands and resets as lines of the one, replies as lines of the other. This profile's own.
use Rattle.std.specs.Prelude.{◌≡◌, ◌≤◌, ℕ, List, [], ◌∷◌, ◌++◌, codes, length, Ok}
use Rattle.std.specs.List.{flat_map}
use Rattle.hex.specs.Hex.{decode_of, encode_lower}
use Rattle.script_tool.specs.Talk.{Answered, Event, Reset}

abbrev pub command_line : List ℕ → List ℕ
command_line command = encode_lower command ++ 10 ∷ []

abbrev pub reset_line : List ℕ
reset_line = codes "reset" ++ 10 ∷ []

abbrev pub event_line : Event → List ℕ
event_line Reset = reset_line
event_line (Answered command reply) = command_line command

-- what is written by events, one after the other
abbrev pub sent_by : List Event → List ℕ
sent_by events = flat_map event_line events

-- the line spells a reply of 258 bytes at most, in digits of either case
abbrev pub SpellsReply : List ℕ → List ℕ → Type 0
SpellsReply line reply = (decode_of line ≡ Ok reply) × (length reply ≤ 258)

abbrev pub IsReply : List ℕ → Type 0
IsReply line = (reply : List ℕ) × SpellsReply line reply

-- the lines spell the replies of the events, in their order
abbrev pub SpellReplies : List (List ℕ) → List Event → Type 0
SpellReplies lines [] = lines ≡ []
SpellReplies lines (Reset ∷ events) = SpellReplies lines events
SpellReplies [] (Answered command reply ∷ events) = ⊥
SpellReplies (line ∷ lines) (Answered command reply ∷ events) = SpellsReply line reply × SpellReplies lines events
