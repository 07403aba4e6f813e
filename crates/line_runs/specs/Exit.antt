-- How a program over lines ends, and its status. This profile's own.
use Rattle.std.specs.Prelude.{ℕ, Bool, true, false}
use Rattle.line_runs.specs.declared.ending.LinesEnd.{LinesEnd}
use Rattle.line_runs.specs.declared.ending.LinesEnd.TheVariants as lines
use Rattle.line_runs.specs.declared.exit.Ending.{Ending}
use Rattle.line_runs.specs.declared.exit.Ending.TheVariants.{Finished, Differs, BadLine, Failed, ReadFault, WriteFault, InputTooLong}

-- the status of a program that ends so, where `differs` says that something was not as wanted
abbrev pub status_with : ℕ → Ending → ℕ
status_with differs Finished = 0
status_with differs Differs = differs
status_with differs BadLine = 2
status_with differs Failed = 3
status_with differs ReadFault = 5
status_with differs WriteFault = 6
status_with differs InputTooLong = 9

-- where 8 does: a reply or a status differs from the one that a line wants
abbrev pub exit_status : Ending → ℕ
exit_status ending = status_with 8 ending

-- at the end of the input, by whether something differed
abbrev pub ending_of : Bool → Ending
ending_of false = Finished
ending_of true = Differs

-- by how the lines were taken, and whether something differed
abbrev pub ending_of_lines : LinesEnd → Bool → Ending
ending_of_lines lines.Finished differs = ending_of differs
ending_of_lines lines.BadLine differs = BadLine
ending_of_lines lines.Failed differs = Failed
ending_of_lines lines.ReadFault differs = ReadFault
ending_of_lines lines.WriteFault differs = WriteFault
ending_of_lines lines.InputTooLong differs = InputTooLong
