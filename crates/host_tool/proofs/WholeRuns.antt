-- How a program ends that has played a script.
use Rattle.std.proofs.Common.{◌≡◌, ◌≢◌, ◌⊎◌, ℕ, false, sym, subst}
use Rattle.faults.specs.Faults.{Rose}
use Rattle.io_edge.specs.Streams.{SinkState, SourceState}
use Rattle.io_edge.specs.declared.sink.Sink.{Ghosts as Sink}
use Rattle.io_edge.specs.declared.source.Source.{Ghosts as Source}
use Rattle.line_runs.specs.Ends.{LinesEndCause, LinesEnds, fault_counts}
use Rattle.line_runs.specs.Outside.{outside}
use Rattle.line_runs.specs.declared.ending.LinesEnd.{LinesEnd}
use Rattle.line_runs.specs.declared.ending.LinesEnd.TheVariants as lines
use Rattle.script_tool.specs.Host.{first_host}
use Rattle.line_runs.specs.Exit.{exit_status}
use Rattle.host_tool.proofs.Causes.{flush_keeps, flushed_cause, good_result, reached_cause, script_done}
use Rattle.host_tool.proofs.Flushed.{flushed_at}
use Rattle.host_tool.proofs.Reached.{Reached, host_course, lines_ended}
use Rattle.host_tool.specs.Ends.{HostCause, HostEnds, NoneRefused, Streams, Tells, before, flow, script_side, tells_of}
use Rattle.host_tool.specs.Flush.{HostFlushes}
use Rattle.host_tool.specs.Link.{sides_of}
use Rattle.host_tool.specs.Ending.{host_ending}
use Rattle.host_tool.specs.Takes.{Hosting, HostStands, host_taker}
use Rattle.line_runs.specs.declared.exit.Ending.{Ending}

-- a write that was refused has raised the count
write_rose : (end : LinesEnd) (a b n c d m : ℕ) → LinesEndCause end (fault_counts a b n) (fault_counts c d m) → end ≡ lines.WriteFault → Rose b d
write_rose end a b n c d m cause is = (subst (λ (e : LinesEnd). LinesEndCause e (fault_counts a b n) (fault_counts c d m)) is cause).1

module _ {S K : Type 0} (source : Source S) (sink : Sink K) (reads writes : Type 0) (old : Streams) (first last : Hosting S K)
    (link_is : sides_of source sink first.link ≡ before old) (stands : HostStands first first_host) (alike : first.differs ≡ false)
    (script : SourceState) (now later : SinkState) (flushes : now.flushes ≡ old.transcript.flushes)
    (end : LinesEnd) (ends : LinesEnds (host_taker source sink) reads writes first last end (script_side old) (outside script now))
    (n m : ℕ) (cause : LinesEndCause end (fault_counts old.script.faults old.transcript.faults n) (fault_counts script.faults now.faults m))
    (result : Ending) (after : HostFlushes writes (host_ending end last.differs last.link.why) now later result) where
  abbrev new : Streams
  new = flow script (source.state last.link.replies) (sink.state last.link.commands) later

  abbrev tells : Tells
  tells = tells_of reads source.tells sink.tells writes

  reached : Reached tells old (flow script (source.state last.link.replies) (sink.state last.link.commands) now)
      (host_course source sink reads writes old first last link_is stands alike script now ends.course) (host_ending end last.differs last.link.why)
  reached =
      lines_ended source sink reads writes old first last link_is stands alike script now ends.course end ends.ends ends.rests
      (write_rose end old.script.faults old.transcript.faults n script.faults now.faults m cause)

  host_cause : HostCause result old new
  host_cause =
      flushed_cause writes old script (source.state last.link.replies) (sink.state last.link.commands) now later (host_ending end last.differs last.link.why) result
      (reached_cause tells old (flow script (source.state last.link.replies) (sink.state last.link.commands) now)
      (host_course source sink reads writes old first last link_is stands alike script now ends.course) end last.differs last.link.why n m reached cause) after

  pub host_ends : (status : ℕ) → status ≡ exit_status result → HostEnds tells status old new
  host_ends status is = record {
    ending = result;
    status_is = is;
    cause = host_cause;
    course = host_course source sink reads writes old first last link_is stands alike script now ends.course;
    ends = flushed_at tells old script (source.state last.link.replies) (sink.state last.link.commands) now later
        (host_course source sink reads writes old first last link_is stands alike script now ends.course) flushes
        (host_ending end last.differs last.link.why) result reached after;
  }

  pub host_done : (status : ℕ) → status ≡ exit_status result → end ≢ lines.BadLine → end ≢ lines.InputTooLong → NoneRefused old new
      → (status ≡ 0) ⊎ (status ≡ 8) ⊎ (status ≡ 3)
  host_done status is good short faultless =
      subst (λ (s : ℕ). (s ≡ 0) ⊎ (s ≡ 8) ⊎ (s ≡ 3)) (sym is)
      (script_done result old new
      (good_result end last.differs last.link.why result good short (flush_keeps writes now later (host_ending end last.differs last.link.why) result after)) host_cause faultless)
