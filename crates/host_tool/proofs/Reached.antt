-- How the playing of a script ends, by how its lines were taken.
use Rattle.std.proofs.Common.{◌≡◌, ◌⊎◌, ℕ, ◌||◌, Bool, true, false, List, [], ◌∷◌, ◌++◌, take, Option, Some, refl, sym, ap, subst, ◌∙◌, inl, inr}
use Rattle.std.proofs.lemmas.List.{append-nil}
use Rattle.std.proofs.Math.Seq.{take-nil}
use Rattle.std.proofs.lemmas.List.Folds.{concat-append}
use Rattle.std.specs.List.{concat}
use Rattle.faults.specs.Faults.{Rose}
use Rattle.io_edge.specs.Streams.{SinkState, SourceState}
use Rattle.io_edge.specs.declared.sink.Sink.{Ghosts as Sink}
use Rattle.io_edge.specs.declared.source.Source.{Ghosts as Source}
use Rattle.line_runs.specs.Ends.{FailsAfter, LinesCourse, LinesEndAt, left_at}
use Rattle.line_runs.specs.Outside.{CutsText, Wrote}
use Rattle.line_runs.specs.Taken.{AreAllTaken}
use Rattle.line_runs.specs.declared.ending.LinesEnd.{LinesEnd}
use Rattle.line_runs.specs.declared.ending.LinesEnd.TheVariants as lines
use Rattle.script_tool.specs.Host.{Host, first_host}
use Rattle.script_tool.specs.HostLines.{HostAsks, HostPlays}
use Rattle.script_tool.specs.Talk.{Event}
use Rattle.line_runs.specs.Exit.{ending_of}
use Rattle.host_tool.proofs.Course.{lines_played}
use Rattle.host_tool.proofs.Sent.{exchanged_none}
use Rattle.host_tool.specs.Conveyed.{Conveyed, Exchanged, InVain, Unanswered}
use Rattle.host_tool.specs.Ends.{HasAsked, HasCutCommands, HasCutText, HasEnded, HasExchanged, HostCourse, Next, Streams, Tells, WroteWith, before, flow, script_side, tells_of}
use Rattle.host_tool.specs.Exchange.{command_line, sent_by}
use Rattle.host_tool.specs.Fault.{fault_text}
use Rattle.host_tool.specs.Link.{sides_of}
use Rattle.host_tool.specs.Played.{HostHasPlayed}
use Rattle.host_tool.specs.Ending.{at_failure, host_ending}
use Rattle.host_tool.specs.Takes.{FailsFrom, Hosting, HostStands, host_taker}
use Rattle.line_runs.specs.declared.exit.Ending.{Ending}
use Rattle.line_runs.specs.declared.exit.Ending.TheVariants.{Finished, BadLine, Failed, ReadFault, WriteFault, InputTooLong}
use Rattle.host_tool.specs.declared.fault.LinkFault.{LinkFault}
use Rattle.host_tool.specs.declared.fault.LinkFault.TheVariants as fault

-- what holds before the flush
abbrev pub Reached : (tells : Tells) (old new : Streams) → HostCourse tells.script old.script.left new.script.left → Ending → Type 0
Reached tells old new course WriteFault =
    (HasCutCommands tells old new course × WroteWith tells old new course [])
    ⊎ (HasCutText tells old new course × Rose old.transcript.faults new.transcript.faults)
Reached tells old new course ending = HasEnded tells old new course ending

module _ {S K : Type 0} (source : Source S) (sink : Sink K) (reads writes : Type 0) (old : Streams) (first last : Hosting S K)
    (link_is : sides_of source sink first.link ≡ before old) (stands : HostStands first first_host) (alike : first.differs ≡ false)
    (script' : SourceState) (transcript' : SinkState) where
  abbrev tells : Tells
  tells = tells_of reads source.tells sink.tells writes

  abbrev new : Streams
  new = flow script' (source.state last.link.replies) (sink.state last.link.commands) transcript'

  -- the first link has conveyed these events, and has not failed
  exchanged : (at : Hosting S K) (host : Host) (events : List Event) → HostStands at host
      → Conveyed source.tells sink.tells (sides_of source sink first.link) (sides_of source sink at.link) at.link.why events
      → Exchanged source.tells sink.tells (before old) (sides_of source sink at.link) events
  exchanged at host events stands' conveyed =
      rw link_is at
      (subst (λ (why : Option LinkFault). Conveyed source.tells sink.tells (sides_of source sink first.link) (sides_of source sink at.link) why events) stands'.sound conveyed)

  module _ (course : LinesCourse (host_taker source sink) reads first old.script.left script'.left) where
    abbrev played : HostHasPlayed source sink first_host first course.last course.given course.texts
    played = lines_played source sink course.given first_host first course.last course.texts stands course.played

    abbrev pub host_course : HostCourse reads old.script.left script'.left
    host_course = record {
      given = course.given;
      events = played.events;
      texts = course.texts;
      differs = played.differs;
      host = played.after;
      ahead = course.ahead;
      fits = course.fits;
      plays = played.plays;
      reached = course.reached;
      taken = course.taken;
    }

    -- what the link has conveyed up to the end of the course
    conveyed_all : Conveyed source.tells sink.tells (sides_of source sink first.link) (sides_of source sink course.last.link) course.last.link.why played.events
    conveyed_all =
        played.joins first.link []
        (subst (λ (why : Option LinkFault). Conveyed source.tells sink.tells (sides_of source sink first.link) (sides_of source sink first.link) why []) (sym stands.sound)
        (exchanged_none source.tells sink.tells (sides_of source sink first.link)))

    all_exchanged : last ≡ course.last → HasExchanged tells old new host_course
    all_exchanged same = (
      last.link.reading,
      subst (λ (h : Hosting S K). Exchanged source.tells sink.tells (before old) (sides_of source sink h.link) played.events) (sym same)
          (exchanged course.last played.after played.events played.stands conveyed_all),
    )

    wrote_all : Wrote writes course.texts (script_side old) (script_side new) → WroteWith tells old new host_course []
    wrote_all wrote told = wrote told ∙ ap (λ (texts : List (List ℕ)). old.transcript.written ++ concat texts) (sym (append-nil course.texts))

    -- an empty text more
    wrote_none : (text : List ℕ) → text ≡ [] → Wrote writes (course.texts ++ text ∷ []) (script_side old) (script_side new) → WroteWith tells old new host_course []
    wrote_none text none wrote told =
        wrote told ∙ ap (λ (t : List ℕ). old.transcript.written ++ t)
        (ap (λ (t : List ℕ). concat (course.texts ++ t ∷ [])) none ∙ concat-append course.texts ([] ∷ []) ∙ sym (concat-append course.texts []))

    cut_none : (text : List ℕ) → text ≡ [] → CutsText writes course.texts text (script_side old) (script_side new) → WroteWith tells old new host_course []
    cut_none text none (flushes, cut) told =
        (let part = cut told in
        part.1 ∙ ap (λ (t : List ℕ). old.transcript.written ++ t)
        (ap (λ (t : List ℕ). concat course.texts ++ take part.0 t) none ∙ ap (λ (t : List ℕ). concat course.texts ++ t) (take-nil part.0) ∙ sym (concat-append course.texts [])))

    module _ (failed : FailsAfter course) (same : last ≡ failed.left) where
      next_line : Next reads old.script.left course.ahead failed.line
      next_line = record { next = failed.next; fits = failed.fits }

      abbrev fails : FailsFrom source sink played.after course.last failed.left failed.line failed.text
      fails = failed.fails played.after played.stands

      abbrev all : List Event
      all = played.events ++ fails.events

      -- what came of the line, by why the link has failed
      abbrev Comes : LinkFault → Type 0
      Comes why =
          ((command : List ℕ) × HostAsks failed.line played.after fails.events command
          × Unanswered source.tells sink.tells (before old) (sides_of source sink last.link) (Some why) all command)
          ⊎ ((said : List ℕ) × (differs : Bool) × (host : Host) × HostPlays failed.line played.after fails.events said differs host
          × Conveyed source.tells sink.tells (before old) (sides_of source sink last.link) (Some why) all)

      comes : Comes fails.fault
      comes = elim fails.comes [
        | inl asks ↦ inl (
          asks.0,
          asks.1,
          rw link_is at
              (subst (λ (why : Option LinkFault). Unanswered source.tells sink.tells (sides_of source sink first.link) (sides_of source sink last.link) why all asks.0)
              (ap (λ (h : Hosting S K). h.link.why) same ∙ fails.why)
              (subst (λ (h : Hosting S K). Unanswered source.tells sink.tells (sides_of source sink first.link) (sides_of source sink h.link) h.link.why all asks.0) (sym same)
              (asks.2 first.link played.events conveyed_all))),
        )
        | inr plays ↦ inr (
          plays.0,
          plays.1,
          plays.2,
          plays.3,
          rw link_is at
              (subst (λ (why : Option LinkFault). Conveyed source.tells sink.tells (sides_of source sink first.link) (sides_of source sink last.link) why all)
              (ap (λ (h : Hosting S K). h.link.why) same ∙ fails.why)
              (subst (λ (h : Hosting S K). Conveyed source.tells sink.tells (sides_of source sink first.link) (sides_of source sink h.link) h.link.why all) (sym same)
              (plays.4 first.link played.events conveyed_all))),
        )
      ]

      -- a command or a reset was not written, or not handed on
      cut_commands : Comes fault.WriteFault → HasCutCommands tells old new host_course
      cut_commands (inl (command, asks, cut)) = record {
        line = failed.line;
        next = next_line;
        bytes = sent_by all ++ command_line command;
        sends = inl (fails.events, command, asks, refl);
        reading = last.link.reading;
        cut = cut;
      }
      cut_commands (inr (said, differs, host, plays, cut)) = record {
        line = failed.line;
        next = next_line;
        bytes = sent_by all;
        sends = inr (fails.events, said, differs, host, plays, refl);
        reading = last.link.reading;
        cut = cut;
      }

      -- no reply came to a command
      asked_for : (why : LinkFault) (command : List ℕ) → HostAsks failed.line played.after fails.events command
          → InVain source.tells sink.tells (before old) (sides_of source sink last.link) all command why → HasAsked tells old new host_course
      asked_for why command asks vain = record {
        line = failed.line;
        next = next_line;
        begun = fails.events;
        command = command;
        asks = asks;
        reading = last.link.reading;
        fault = why;
        vain = vain;
      }

      abbrev WhereNone : LinkFault → Type 0
      WhereNone why = (asked : HasAsked tells old new host_course) × (asked.fault ≡ why)

      in_vain : (why : LinkFault) → Comes why → (why ≡ fault.WriteFault → ⊥) → WhereNone why
      unfolding asked_for
      in_vain fault.WriteFault come other = absurd (other refl)
      in_vain (fault.BadReply n) (inl (command, asks, vain)) other = (asked_for (fault.BadReply n) command asks vain, refl)
      in_vain fault.Ended (inl (command, asks, vain)) other = (asked_for fault.Ended command asks vain, refl)
      in_vain fault.ReadFault (inl (command, asks, vain)) other = (asked_for fault.ReadFault command asks vain, refl)
      in_vain fault.TooMany (inl (command, asks, vain)) other = (asked_for fault.TooMany command asks vain, refl)
      in_vain _ (inr plays) other = absurd plays.4

      -- the text of the fault was written
      answered : (why : LinkFault) → WhereNone why → failed.text ≡ fault_text why → Wrote writes (course.texts ++ failed.text ∷ []) (script_side old) (script_side new)
          → HasEnded tells old new host_course Failed
      answered why (asked, is) text wrote = (
        asked,
        subst (λ (t : List ℕ). WroteWith tells old new host_course (t ∷ [])) (text ∙ ap fault_text (sym is)) wrote,
      )

      -- it was cut
      cut_answer : (why : LinkFault) → WhereNone why → failed.text ≡ fault_text why → CutsText writes course.texts failed.text (script_side old) (script_side new)
          → HasCutText tells old new host_course
      cut_answer why (asked, is) text cut =
          inr (inr (asked, subst (λ (t : List ℕ). CutsText writes course.texts t (script_side old) (script_side new)) (text ∙ ap fault_text (sym is)) cut))

      failed_at : (why : LinkFault) → Comes why → failed.text ≡ fault_text why → Wrote writes (course.texts ++ failed.text ∷ []) (script_side old) (script_side new)
          → Reached tells old new host_course (at_failure (Some why))
      failed_at fault.WriteFault come text wrote = inl (cut_commands come, wrote_none failed.text text wrote)
      failed_at (fault.BadReply n) come text wrote = answered (fault.BadReply n) (in_vain (fault.BadReply n) come (λ is. cc is)) text wrote
      failed_at fault.Ended come text wrote = answered fault.Ended (in_vain fault.Ended come (λ is. cc is)) text wrote
      failed_at fault.ReadFault come text wrote = answered fault.ReadFault (in_vain fault.ReadFault come (λ is. cc is)) text wrote
      failed_at fault.TooMany come text wrote = answered fault.TooMany (in_vain fault.TooMany come (λ is. cc is)) text wrote

      cut_at : Rose old.transcript.faults transcript'.faults → (why : LinkFault) → Comes why → failed.text ≡ fault_text why → CutsText writes course.texts failed.text (script_side old) (script_side new)
          → Reached tells old new host_course WriteFault
      cut_at rose fault.WriteFault come text cut = inl (cut_commands come, cut_none failed.text text cut)
      cut_at rose (fault.BadReply n) come text cut = inr (cut_answer (fault.BadReply n) (in_vain (fault.BadReply n) come (λ is. cc is)) text cut, rose)
      cut_at rose fault.Ended come text cut = inr (cut_answer fault.Ended (in_vain fault.Ended come (λ is. cc is)) text cut, rose)
      cut_at rose fault.ReadFault come text cut = inr (cut_answer fault.ReadFault (in_vain fault.ReadFault come (λ is. cc is)) text cut, rose)
      cut_at rose fault.TooMany come text cut = inr (cut_answer fault.TooMany (in_vain fault.TooMany come (λ is. cc is)) text cut, rose)

      pub line_failed : Wrote writes (course.texts ++ failed.text ∷ []) (script_side old) (script_side new) → Reached tells old new host_course (at_failure last.link.why)
      line_failed wrote =
          subst (λ (why : Option LinkFault). Reached tells old new host_course (at_failure why)) (sym (ap (λ (h : Hosting S K). h.link.why) same ∙ fails.why))
          (failed_at fails.fault comes fails.text_is wrote)

      pub text_cut : Rose old.transcript.faults transcript'.faults → CutsText writes course.texts failed.text (script_side old) (script_side new) → Reached tells old new host_course WriteFault
      text_cut rose cut = cut_at rose fails.fault comes fails.text_is cut

    -- the script was played to its end
    finished_at : (differs : Bool) → played.differs ≡ differs → (reads → AreAllTaken old.script.left course.given course.ahead) → HasExchanged tells old new host_course
        → WroteWith tells old new host_course [] → Reached tells old new host_course (ending_of differs)
    finished_at false is read spoke wrote = (is, read, spoke, wrote)
    finished_at true is read spoke wrote = (is, read, spoke, wrote)

    differs_as_played : last ≡ course.last → played.differs ≡ last.differs
    differs_as_played same = sym (ap (λ (h : Hosting S K). h.differs) same ∙ played.differs_is ∙ ap (λ (d : Bool). d || played.differs) alike)

    pub lines_ended : (end : LinesEnd) (at : LinesEndAt writes (script_side old) (script_side new) course end) → last ≡ left_at writes (script_side old) (script_side new) course end at
        → (end ≡ lines.WriteFault → Rose old.transcript.faults transcript'.faults) → Reached tells old new host_course (host_ending end last.differs last.link.why)
    lines_ended lines.Finished at same rose = finished_at last.differs (differs_as_played same) at.0 (all_exchanged same) (wrote_all at.1)
    lines_ended lines.BadLine at same rose = (at.0, all_exchanged same, at.1)
    lines_ended lines.ReadFault at same rose = (at.0, all_exchanged same, wrote_all at.1)
    lines_ended lines.InputTooLong at same rose = (at.0, all_exchanged same, wrote_all at.1)
    lines_ended lines.Failed at same rose = line_failed at.0 same at.1
    lines_ended lines.WriteFault (inl (earlier, text, are, cut)) same rose = inr (inl (all_exchanged same, earlier, text, are, cut), rose refl)
    lines_ended lines.WriteFault (inr (inl (refused, cut))) same rose = inr (inr (inl (refused, all_exchanged same, cut)), rose refl)
    lines_ended lines.WriteFault (inr (inr (failed, cut))) same rose = text_cut failed same (rose refl) cut
