-- How many commands a line makes.
use Rattle.std.specs.Prelude.{ℕ, ◌+◌, ◌*◌, ◌≤◌, List, [], ◌∷◌, length}
use Rattle.script_tool.specs.Host.{Host}
use Rattle.script_lines.specs.Line.{SaysLine}
use Rattle.script_tool.specs.Play.{playing}
use Rattle.script_tool.specs.Talk.{Answered, Event, Goes, Reset, Talk}
use Rattle.script_lines.specs.declared.line.ScriptLine.{ScriptLine}

-- how many of the events are commands
abbrev pub command_count : List Event → ℕ
command_count [] = 0
command_count (Reset ∷ events) = command_count events
command_count (Answered command reply ∷ events) = command_count events + 1

-- however a card answers, a line makes no more than 60 commands for each of its bytes
abbrev pub FewCommands : Type 0
FewCommands =
    (text : List ℕ) (said : ScriptLine) (host : Host) (events : List Event) (left : Talk)
    → SaysLine text said → Goes (playing host said) events left → command_count events ≤ 60 * length text
