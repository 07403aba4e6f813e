-- How a verb over lines ends that has no card: `desk` or `cap`. `writes` is a fact where the sink tells its bytes, and `⊥` where it doesn't.
use Rattle.std.specs.Prelude.{◌≡◌, ℕ}
use Rattle.line_runs.specs.Exit.{status_with}
use Rattle.line_runs.specs.Outside.{Outside}
use Rattle.line_runs.specs.declared.exit.Ending.{Ending}
use Rattle.gp_tool.specs.Around.{around}
use Rattle.gp_tool.specs.Ends.{EndCause, Flushes}

-- The lines of a source were taken up to an ending, which the status tells: `differs` says that something was not as wanted.
-- `EndsAt` is what holds at the ending after a course of lines.
pub record CardlessEnds {C : Type 0} (differs : ℕ) (EndsAt : C → Ending → Type 0) (writes : Type 0) (status : ℕ) (old new : Outside) : Type 0 where
  pub ending : Ending
  pub status_is : status ≡ status_with differs ending
  pub cause : EndCause ending (around old.source.faults old.sink.faults 0) (around new.source.faults new.sink.faults 0)
  pub flushes : Flushes writes ending old.sink new.sink
  pub course : C
  pub ends : EndsAt course ending
