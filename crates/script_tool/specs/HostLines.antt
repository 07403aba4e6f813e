-- Lines that a host plays one after the other: what goes over its link, and what is printed. What a card does is no part of it.
-- This profile's own.
use Rattle.std.specs.Prelude.{◌≡◌, ℕ, Bool, true, false, ◌||◌, List, [], ◌∷◌, ◌++◌}
use Rattle.script_tool.specs.Host.{Host}
use Rattle.script_lines.specs.Line.{SaysLine}
use Rattle.script_tool.specs.Play.{playing, remembering}
use Rattle.script_tool.specs.Printed.{Differs, Nothing, Printed, printed_text, status_printed}
use Rattle.script_lines.specs.Quiet.{is_quiet}
use Rattle.script_tool.specs.Talk.{Ends, Event, Goes, Sends, Talk}
use Rattle.script_lines.specs.declared.line.ScriptLine.{ScriptLine}

-- what is printed is a line of text, and nothing is none
abbrev pub text_line : Bool → Printed → List ℕ
text_line quiet Nothing = []
text_line quiet printed = printed_text quiet printed ++ 10 ∷ []

-- the status printed last is not the one that the line wants
abbrev pub is_difference : Printed → Bool
is_difference (Differs want got) = true
is_difference printed = false

-- From one host the line leads to another: the host's talk comes to its end by the events.
pub record HostPlays (line : List ℕ) (at : Host) (events : List Event) (text : List ℕ) (differs : Bool) (next : Host) : Type 0 where
  pub said : ScriptLine
  pub says : SaysLine line said
  pub printed : Printed
  pub after : Host
  pub goes : Goes (playing at said) events (Ends printed after)
  pub text_is : text ≡ text_line (is_quiet said) printed
  pub differs_is : differs ≡ is_difference printed
  pub next_is : next ≡ remembering (status_printed printed) after

-- one line after the other
abbrev pub HostPlaysAll : List (List ℕ) → Host → List Event → List (List ℕ) → Bool → Host → Type 0
HostPlaysAll [] at events texts differs last = (events ≡ []) × (texts ≡ []) × (differs ≡ false) × (last ≡ at)
HostPlaysAll (line ∷ lines) at events texts differs last =
    (some : List Event) × (text : List ℕ) × (one : Bool) × (next : Host) × HostPlays line at some text one next
    × (more : List Event) × (rest : List (List ℕ)) × (others : Bool) × HostPlaysAll lines next more rest others last
    × (events ≡ some ++ more) × (texts ≡ text ∷ rest) × (differs ≡ (one || others))

-- The line is to send a command after these events, and what comes of it is not known.
pub record HostAsks (line : List ℕ) (at : Host) (events : List Event) (command : List ℕ) : Type 0 where
  pub said : ScriptLine
  pub says : SaysLine line said
  pub rest : List ℕ → Talk
  pub goes : Goes (playing at said) events (Sends command rest)
