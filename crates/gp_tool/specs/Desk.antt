-- How the verb `desk` ends. In what follows `reads` and `writes` are facts where the source and the sink tell their bytes.
use Rattle.std.specs.Prelude.{◌≡◌, ◌⊎◌, ℕ, true, false}
use Rattle.faults.specs.Faults.{next_count}
use Rattle.line_runs.specs.Ends.{IsCutOff, LinesCourse, LinesEndAt}
use Rattle.line_runs.specs.Outside.{Outside}
use Rattle.line_runs.specs.declared.ending.LinesEnd.TheVariants as lines
use Rattle.receipt_desk.specs.Audit.{desk_taker, new_audit}
use Rattle.gp_tool.specs.Cardless.{CardlessEnds}
use Rattle.line_runs.specs.declared.exit.Ending.{Ending}
use Rattle.line_runs.specs.declared.exit.Ending.TheVariants.{Finished, Differs, BadLine, ReadFault, WriteFault, InputTooLong}

-- the course of the lines that a desk took, up to the end
abbrev pub DeskCourse : Type 0 → (old new : Outside) → Type 0
DeskCourse reads old new = LinesCourse desk_taker reads new_audit old.source.left new.source.left

-- What holds after the course where nothing has failed: whether a receipt did not fit, why no further line was taken, and what was written.
abbrev pub DeskFaultless : {reads : Type 0} → Type 0 → (old new : Outside) → DeskCourse reads old new → Ending → Type 0
DeskFaultless writes old new course Finished = (course.last.differs ≡ false) × LinesEndAt writes old new course lines.Finished
DeskFaultless writes old new course Differs = (course.last.differs ≡ true) × LinesEndAt writes old new course lines.Finished
DeskFaultless writes old new course BadLine = LinesEndAt writes old new course lines.BadLine
DeskFaultless writes old new course InputTooLong = LinesEndAt writes old new course lines.InputTooLong
DeskFaultless writes old new course ending = ⊥

-- What holds after the course at each ending. At a refused write or flush a text was refused, or all was written and
-- its flush was refused.
abbrev pub DeskEndsAt : {reads : Type 0} → Type 0 → (old new : Outside) → DeskCourse reads old new → Ending → Type 0
DeskEndsAt writes old new course ReadFault = LinesEndAt writes old new course lines.ReadFault
DeskEndsAt writes old new course WriteFault =
    IsCutOff writes old new course
    ⊎ ((other : Ending) × DeskFaultless writes old new course other × (new.sink.flushes ≡ next_count old.sink.flushes))
DeskEndsAt writes old new course ending = DeskFaultless writes old new course ending

-- The lines of a source were taken for those of a desk, up to an ending, which the status tells: 10 says that some receipt did not fit.
abbrev pub DeskEnds : (reads writes : Type 0) → ℕ → Outside → Outside → Type 0
DeskEnds reads writes status old new = CardlessEnds 10 (DeskEndsAt {reads = reads} writes old new) writes status old new
