-- What each line of a workload is.
use Rattle.std.specs.Prelude.{◌≤◌, ℕ, List, length}
use Rattle.std.specs.List.{AllByRecursion}
use Rattle.io_edge.specs.declared.line.TheConstants.{LINE_LIMIT}
use Rattle.script_lines.specs.Line.{SaysLine}
use Rattle.script_lines.specs.Mill.{workload}
use Rattle.script_lines.specs.declared.line.ScriptLine.{ScriptLine}

-- a text says some line
abbrev pub SaysSome : List ℕ → Type 0
SaysSome text = (line : ScriptLine) × SaysLine text line

-- it does, and a source can give it
abbrev pub IsScriptLine : List ℕ → Type 0
IsScriptLine text = SaysSome text × (length text ≤ LINE_LIMIT)

abbrev pub AreLines : List (List ℕ) → Type 0
AreLines texts = AllByRecursion IsScriptLine texts

-- each line of a workload is one
abbrev pub WorkloadLines : Type 0
WorkloadLines = (seed count : ℕ) → AreLines (workload seed count)
