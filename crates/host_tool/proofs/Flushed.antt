-- What holds once the transcript was flushed.
use Rattle.std.proofs.Common.{◌≡◌, ℕ, List, [], ap, subst, sym, ◌∙◌, inl, inr}
use Rattle.faults.specs.Faults.{next_count}
use Rattle.io_edge.specs.Streams.{SinkState, SourceState}
use Rattle.host_tool.proofs.Reached.{Reached}
use Rattle.host_tool.specs.Ends.{HasAsked, HasEnded, HostCourse, HostEndsAt, Streams, Tells, WroteWith, flow}
use Rattle.host_tool.specs.Flush.{HostFlushes, Flushed, HandedOn}
use Rattle.line_runs.specs.declared.exit.Ending.{Ending}
use Rattle.line_runs.specs.declared.exit.Ending.TheVariants.{Finished, Differs, BadLine, Failed, ReadFault, WriteFault, InputTooLong}

module _ (tells : Tells) (old : Streams) (script replies : SourceState) (commands now later : SinkState)
    (course : HostCourse tells.script old.script.left script.left) (none : now.flushes ≡ old.transcript.flushes) where
  abbrev before : Streams
  before = flow script replies commands now

  abbrev after : Streams
  after = flow script replies commands later

  module _ (flushed : Flushed tells.transcript now later) where
    still_wrote : (more : List (List ℕ)) → WroteWith tells old before course more → WroteWith tells old after course more
    still_wrote more wrote told = flushed.same told ∙ wrote told

    still_asked : HasAsked tells old before course → HasAsked tells old after course
    still_asked asked = record {
      line = asked.line;
      next = asked.next;
      begun = asked.begun;
      command = asked.command;
      asks = asked.asks;
      reading = asked.reading;
      fault = asked.fault;
      vain = asked.vain;
    }

    still : (ending : Ending) → HasEnded tells old before course ending → HasEnded tells old after course ending
    unfolding still_asked
    still Finished (is, read, spoke, wrote) = (is, read, spoke, still_wrote [] wrote)
    still Differs (is, read, spoke, wrote) = (is, read, spoke, still_wrote [] wrote)
    still BadLine (bad, spoke, wrote) = (bad, spoke, still_wrote _ wrote)
    still Failed (asked, wrote) = (still_asked asked, still_wrote _ wrote)
    still ReadFault (holds, spoke, wrote) = (holds, spoke, still_wrote [] wrote)
    still InputTooLong (cut, spoke, wrote) = (cut, spoke, still_wrote [] wrote)
    still WriteFault none = absurd none

    once : later.flushes ≡ next_count old.transcript.flushes
    once = flushed.once ∙ ap next_count none

    handed_at : (ending : Ending) → HasEnded tells old before course ending → HandedOn tells.transcript now later
        → HasEnded tells old after course ending × (later.flushes ≡ next_count old.transcript.flushes) × (tells.transcript → later.handed_on ≡ later.written)
    handed_at ending at handed = (still ending at, once, handed.all)

    refused_at : (ending : Ending) → HasEnded tells old before course ending → HostEndsAt tells old after course WriteFault
    refused_at ending at = inr (inr (ending, still ending at, once))

  unflushed : Reached tells old before course WriteFault → HostEndsAt tells old before course WriteFault
  unflushed (inl cut) = inl cut
  unflushed (inr text) = inr (inl text.0)

  pub flushed_at : (ending result : Ending) → Reached tells old before course ending → HostFlushes tells.transcript ending now later result
      → HostEndsAt tells old after course result
  flushed_at WriteFault result at (is, same) =
      rw is (subst (λ (t : SinkState). HostEndsAt tells old (flow script replies commands t) course WriteFault) (sym same) (unflushed at))
  flushed_at ending result at (flushed, inl (is, handed)) = rw is (handed_at flushed ending at handed)
  flushed_at ending result at (flushed, inr refused) = rw refused.0 (refused_at flushed ending at)
