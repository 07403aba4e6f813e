-- For the code inside. How a script ends, by how its lines were taken.
use Rattle.std.specs.Prelude.{Bool, Option, Some}
use Rattle.line_runs.specs.Exit.{ending_of_lines}
use Rattle.line_runs.specs.declared.ending.LinesEnd.{LinesEnd}
use Rattle.line_runs.specs.declared.ending.LinesEnd.TheVariants as lines
use Rattle.line_runs.specs.declared.exit.Ending.{Ending}
use Rattle.line_runs.specs.declared.exit.Ending.TheVariants.{Failed, WriteFault}
use Rattle.host_tool.specs.declared.fault.LinkFault.{LinkFault}
use Rattle.host_tool.specs.declared.fault.LinkFault.TheVariants as fault

-- where a command or a reset has failed, by why
abbrev pub at_failure : Option LinkFault → Ending
at_failure (Some fault.WriteFault) = WriteFault
at_failure why = Failed

abbrev pub host_ending : LinesEnd → Bool → Option LinkFault → Ending
host_ending lines.Failed differs why = at_failure why
host_ending end differs why = ending_of_lines end differs
