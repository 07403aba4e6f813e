-- Whether a line asks for the status alone.
use Rattle.std.specs.Prelude.{Bool, true, false}
use Rattle.script_lines.specs.declared.line.ScriptLine.{ScriptLine}
use Rattle.script_lines.specs.declared.line.ScriptLine.TheVariants.{Quiet}

abbrev pub is_quiet : ScriptLine → Bool
is_quiet (Quiet exchange) = true
is_quiet _ = false
