-- How a desk ends, by how its lines were taken and how the flush was answered.
use Rattle.std.proofs.Common.{◌≡◌, ◌⊎◌, ◌≤◌, ℕ, arith, Bool, true, false, refl, ap, subst, ◌∙◌, inl, inr}
use Rattle.faults.specs.Faults.{Rose}
use Rattle.io_edge.specs.Streams.{SinkState, SourceState}
use Rattle.line_runs.specs.Ends.{Faults, IsCutOff, LinesCourse, LinesEndAt, LinesEndCause, fault_counts, left_at}
use Rattle.line_runs.specs.Outside.{Outside, outside}
use Rattle.line_runs.specs.Taker.{Taker}
use Rattle.line_runs.specs.declared.ending.LinesEnd.{LinesEnd}
use Rattle.line_runs.specs.declared.ending.LinesEnd.TheVariants as lines
use Rattle.line_runs.specs.Exit.{ending_of_lines, status_with}
use Rattle.gp_tool.specs.Around.{around}
use Rattle.gp_tool.specs.Desk.{DeskCourse, DeskEndsAt, DeskFaultless}
use Rattle.gp_tool.specs.Ends.{EndCause}
use Rattle.gp_tool.specs.Flush.{AfterFlush, IsFlushed}
use Rattle.line_runs.specs.declared.exit.Ending.{Ending}
use Rattle.line_runs.specs.declared.exit.Ending.TheVariants.{Finished, Differs, BadLine, Failed, ReadFault, WriteFault, InputTooLong}

-- at the end of the input the taker is left after the last line
pub left_finished : {T : Type 0} {does : Taker T} {reads : Type 0} {first : T} (writes : Type 0) (old new : Outside)
    (course : LinesCourse does reads first old.source.left new.source.left) (end : LinesEnd) (at : LinesEndAt writes old new course end) → end ≡ lines.Finished
    → left_at writes old new course end at ≡ course.last
left_finished writes old new course lines.WriteFault at is = cc is
left_finished writes old new course lines.Failed at is = cc is
left_finished writes old new course _ at is = refl

-- whose faults the lines ended with are those that the program ends with
pub lines_cause : (end : LinesEnd) (differs : Bool) (source source' sink sink' : ℕ) → LinesEndCause end (fault_counts source sink 0) (fault_counts source' sink' 0)
    → EndCause (ending_of_lines end differs) (around source sink 0) (around source' sink' 0)
lines_cause lines.Finished false source source' sink sink' same = (ap (λ (f : Faults). f.source) same, ap (λ (f : Faults). f.sink) same)
lines_cause lines.Finished true source source' sink sink' same = (ap (λ (f : Faults). f.source) same, ap (λ (f : Faults). f.sink) same)
lines_cause lines.BadLine differs source source' sink sink' same = (ap (λ (f : Faults). f.source) same, ap (λ (f : Faults). f.sink) same)
lines_cause lines.InputTooLong differs source source' sink sink' same = (ap (λ (f : Faults). f.source) same, ap (λ (f : Faults). f.sink) same)
lines_cause lines.ReadFault differs source source' sink sink' cause = cause.0
lines_cause lines.WriteFault differs source source' sink sink' cause = (cause.0, cause.1)
lines_cause lines.Failed differs source source' sink sink' cause = (cause.0, inl cause.1, cause.2)

module _ {T : Type 0} {does : Taker T} {reads : Type 0} {first : T} (writes : Type 0) (old : Outside) (source : SourceState) (now later : SinkState)
    (same : writes → later.written ≡ now.written) (course : LinesCourse does reads first old.source.left source.left) where
  -- what holds of what was written holds after a flush
  pub still_finished : LinesEndAt writes old (outside source now) course lines.Finished → LinesEndAt writes old (outside source later) course lines.Finished
  still_finished at = (at.0, λ told. same told ∙ at.1 told)

  pub still_bad : LinesEndAt writes old (outside source now) course lines.BadLine → LinesEndAt writes old (outside source later) course lines.BadLine
  still_bad at = (at.0, λ told. same told ∙ at.1 told)

  pub still_long : LinesEndAt writes old (outside source now) course lines.InputTooLong → LinesEndAt writes old (outside source later) course lines.InputTooLong
  still_long at = (at.0, λ told. same told ∙ at.1 told)

  pub still_unread : LinesEndAt writes old (outside source now) course lines.ReadFault → LinesEndAt writes old (outside source later) course lines.ReadFault
  still_unread at = (at.0, λ told. same told ∙ at.1 told)

  pub still_cut : later.flushes ≡ old.sink.flushes → IsCutOff writes old (outside source now) course → IsCutOff writes old (outside source later) course
  still_cut none (inl (earlier, text, are, (flushes, written))) = inl (earlier, text, are, (none, λ told. (let part = written told in (part.0, same told ∙ part.1))))
  still_cut none (inr (inl (refused, (flushes, written)))) = inr (inl (refused, (none, λ told. (let part = written told in (part.0, same told ∙ part.1)))))
  still_cut none (inr (inr (fault, (flushes, written)))) = inr (inr (fault, (none, λ told. (let part = written told in (part.0, same told ∙ part.1)))))

module _ {reads : Type 0} (writes : Type 0) (old : Outside) (source : SourceState) (now later : SinkState) (same : writes → later.written ≡ now.written)
    (none : now.flushes ≡ old.sink.flushes) (course : DeskCourse reads old (outside source now)) where
  abbrev before : Outside
  before = outside source now

  abbrev after : Outside
  after = outside source later

  -- the flush of what ended without a fault was answered or refused
  flushed_at : (ending result : Ending) → DeskFaultless writes old after course ending → (DeskFaultless writes old after course ending → DeskEndsAt writes old after course ending)
      → IsFlushed writes ending old.sink later result → DeskEndsAt writes old after course result
  flushed_at ending result at ends (inl done) = rw done.0 (ends at)
  flushed_at ending result at ends (inr refused) = rw refused.0 (inr (ending, at, refused.1))

  pub desk_ends : (end : LinesEnd) (differs : Bool) (result : Ending) → LinesEndAt writes old before course end → (end ≡ lines.Finished → course.last.differs ≡ differs)
      → AfterFlush writes (ending_of_lines end differs) old.sink later result → DeskEndsAt writes old after course result
  desk_ends lines.Finished false result at is flushed =
      flushed_at Finished result (is refl, still_finished writes old source now later same course at) (λ it. it) flushed
  desk_ends lines.Finished true result at is flushed =
      flushed_at Differs result (is refl, still_finished writes old source now later same course at) (λ it. it) flushed
  desk_ends lines.BadLine differs result at is flushed = flushed_at BadLine result (still_bad writes old source now later same course at) (λ it. it) flushed
  desk_ends lines.InputTooLong differs result at is flushed = flushed_at InputTooLong result (still_long writes old source now later same course at) (λ it. it) flushed
  desk_ends lines.Failed differs result at is flushed = (let fault = at.0 in absurd fault.fails)
  desk_ends lines.ReadFault differs result at is flushed = rw flushed.0 (still_unread writes old source now later same course at)
  desk_ends lines.WriteFault differs result at is flushed = rw flushed.0 (inl (still_cut writes old source now later same course flushed.1 at))

-- where the lines ended without a fault and nothing has failed since, all is done
pub desk_done : (end : LinesEnd) (differs : Bool) (result : Ending) (source source' sink sink' : ℕ)
    → EndCause result (around source sink 0) (around source' sink' 0) → (Rose source source' → ⊥) → (Rose sink sink' → ⊥)
    → (end ≡ lines.BadLine → ⊥) → (end ≡ lines.InputTooLong → ⊥) → (result ≡ ending_of_lines end differs) ⊎ (result ≡ WriteFault)
    → (status_with 10 result ≡ 0) ⊎ (status_with 10 result ≡ 10)
desk_done lines.Finished false result source source' sink sink' cause unread unwritten good short (inl is) = inl (ap (status_with 10) is)
desk_done lines.Finished true result source source' sink sink' cause unread unwritten good short (inl is) = inr (ap (status_with 10) is)
desk_done lines.BadLine differs result source source' sink sink' cause unread unwritten good short (inl is) = absurd (good refl)
desk_done lines.InputTooLong differs result source source' sink sink' cause unread unwritten good short (inl is) = absurd (short refl)
desk_done lines.Failed differs result source source' sink sink' cause unread unwritten good short (inl is) =
    let rose = (subst (λ (e : Ending). EndCause e (around source sink 0) (around source' sink' 0)) is cause).2 in
    let wrong : 1 ≤ 0 = rose in
    absurd (omega (arith, wrong))
desk_done lines.ReadFault differs result source source' sink sink' cause unread unwritten good short (inl is) =
    absurd (unread (subst (λ (e : Ending). EndCause e (around source sink 0) (around source' sink' 0)) is cause))
desk_done lines.WriteFault differs result source source' sink sink' cause unread unwritten good short (inl is) =
    absurd (unwritten (subst (λ (e : Ending). EndCause e (around source sink 0) (around source' sink' 0)) is cause).1)
desk_done end differs result source source' sink sink' cause unread unwritten good short (inr is) =
    absurd (unwritten (subst (λ (e : Ending). EndCause e (around source sink 0) (around source' sink' 0)) is cause).1)

-- a flush keeps an ending, or makes it a write fault
pub flush_keeps : (writes : Type 0) (ending result : Ending) (old new : SinkState) → AfterFlush writes ending old new result → (result ≡ ending) ⊎ (result ≡ WriteFault)
flush_keeps writes Finished result old new (inl done) = inl done.0
flush_keeps writes Differs result old new (inl done) = inl done.0
flush_keeps writes BadLine result old new (inl done) = inl done.0
flush_keeps writes InputTooLong result old new (inl done) = inl done.0
flush_keeps writes Failed result old new done = inl done.0
flush_keeps writes ReadFault result old new done = inl done.0
flush_keeps writes WriteFault result old new done = inl done.0
flush_keeps writes _ result old new (inr refused) = inr refused.0
