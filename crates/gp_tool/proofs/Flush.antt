-- A run after its flush.
use Rattle.std.proofs.Common.{◌≡◌, ◌≢◌, ℕ, ◌+◌, List, length, sym, ap, ◌∙◌, inl, inr}
use Rattle.faults.specs.Faults.{next_count}
use Rattle.io_edge.specs.Streams.{SinkState, SourceState}
use Rattle.policy_machine.specs.State.{State}
use Rattle.policy_machine.specs.Step.{Outcome}
use Rattle.gp_tool.specs.Ends.{Course, Ends, EndsAt, EndsFaultless, Flushes, with_bad_line}
use Rattle.line_runs.specs.Outside.{CutsText, Outside, Wrote, outside}
use Rattle.gp_tool.specs.Flush.{AfterFlush, IsFlushed}
use Rattle.line_runs.specs.Outside.{bad_line}
use Rattle.line_runs.specs.declared.exit.Ending.{Ending}
use Rattle.line_runs.specs.declared.exit.Ending.TheVariants.{Finished, Differs, BadLine, Failed, ReadFault, WriteFault, InputTooLong}
use Rattle.gp_tool.specs.declared.verb.Verb.{Verb}

-- a sink was not flushed before
flushed_from : (writes : Type 0) (ending : Ending) (old mid new : SinkState) (result : Ending) → mid.flushes ≡ old.flushes
    → IsFlushed writes ending mid new result → IsFlushed writes ending old new result
flushed_from writes ending old mid new result same (inl done) =
    (let handed = done.1 in inl (done.0, record { once = handed.once ∙ ap next_count same; all = handed.all }))
flushed_from writes ending old mid new result same (inr fault) = inr (fault.0, fault.1 ∙ ap next_count same)

pub after_from : (writes : Type 0) (ending : Ending) (old mid new : SinkState) (result : Ending) → mid.flushes ≡ old.flushes
    → AfterFlush writes ending mid new result → AfterFlush writes ending old new result
after_from writes Finished old mid new result same after = flushed_from writes Finished old mid new result same after
after_from writes Differs old mid new result same after = flushed_from writes Differs old mid new result same after
after_from writes BadLine old mid new result same after = flushed_from writes BadLine old mid new result same after
after_from writes InputTooLong old mid new result same after = flushed_from writes InputTooLong old mid new result same after
after_from writes Failed old mid new result same after = (after.0, after.1 ∙ ap next_count same)
after_from writes ReadFault old mid new result same after = (after.0, after.1 ∙ ap next_count same)
after_from writes WriteFault old mid new result same after = (after.0, after.1 ∙ same)

module _ (verb : Verb) (reads writes : Type 0) (Rests : List Outcome → State → Type 0) (Fails : List Outcome → State → Outcome → Type 0) (first : State) (before : Outside) (source : SourceState) (now later : SinkState)
    (same : writes → later.written ≡ now.written) where
  -- what was written stays over a flush
  still_wrote : (texts : List (List ℕ)) → Wrote writes texts before (outside source now) → Wrote writes texts before (outside source later)
  still_wrote texts wrote told = same told ∙ wrote told

  still_cut : (texts : List (List ℕ)) (text : List ℕ) → later.flushes ≡ before.sink.flushes → CutsText writes texts text before (outside source now) → CutsText writes texts text before (outside source later)
  still_cut texts text none (flushes, written) = (none, λ told. let part = written told in (part.0, same told ∙ part.1))

  module _ (course : Course verb reads first before.source.left source.left) where
    abbrev At : SinkState → Ending → Type 0
    At sink ending = EndsAt verb reads writes Fails first before (outside source sink) course ending

    abbrev Faultless : SinkState → Ending → Type 0
    Faultless sink ending = EndsFaultless verb reads writes first before (outside source sink) course ending

    still_faultless : (ending : Ending) → Faultless now ending → Faultless later ending
    still_faultless Finished at = (at.0, at.1, still_wrote course.effect.texts at.2)
    still_faultless Differs at = (at.0, at.1, still_wrote course.effect.texts at.2)
    still_faultless BadLine at = (at.0, still_wrote (with_bad_line course.given course.effect) at.1)
    still_faultless InputTooLong at = (at.0, still_wrote course.effect.texts at.1)
    still_faultless _ at = absurd at

    faultless_at : (ending : Ending) → Faultless later ending → At later ending
    faultless_at Failed at = absurd at
    faultless_at ReadFault at = absurd at
    faultless_at WriteFault at = absurd at
    faultless_at _ at = at

    -- the flush was answered or refused
    flush_at : (ending result : Ending) → Faultless now ending → IsFlushed writes ending before.sink later result → At later result
    flush_at ending result at (inl done) = rw done.0 (faultless_at ending (still_faultless ending at))
    flush_at ending result at (inr refused) = rw refused.0 (inr (inr (ending, still_faultless ending at, refused.1)))

    after_at : (ending result : Ending) → AfterFlush writes ending before.sink later result → now.flushes ≡ before.sink.flushes → At now ending → At later result
    after_at Finished result after none at = flush_at Finished result at after
    after_at Differs result after none at = flush_at Differs result at after
    after_at BadLine result after none at = flush_at BadLine result at after
    after_at InputTooLong result after none at = flush_at InputTooLong result at after
    after_at Failed result after none at = rw after.0 (at.0, still_wrote course.effect.texts at.1)
    after_at ReadFault result after none at = rw after.0 (at.0, still_wrote course.effect.texts at.1)
    after_at WriteFault result after none (inl (last, cut)) = rw after.0 (inl (last, still_cut last.before.texts last.text after.1 cut))
    after_at WriteFault result after none (inr (inl (bad, cut))) = rw after.0 (inr (inl (bad, still_cut course.effect.texts (bad_line (length course.given + 1)) after.1 cut)))
    after_at WriteFault result after none (inr (inr (other, at, once))) = rw after.0 (inr (inr (other, still_faultless other at, after.1 ∙ sym none ∙ once)))

  -- a run whose flush was refused rests where it rested before
  rests_still : (ending result : Ending) → AfterFlush writes ending before.sink later result → result ≢ Failed → ending ≢ Failed
  rests_still Failed result after other is = other after.0
  rests_still _ result after other is = cc is

  pub after_flush : (ending result : Ending) → AfterFlush writes ending before.sink later result → now.flushes ≡ before.sink.flushes
      → Ends verb reads writes Rests Fails first ending before (outside source now) → Ends verb reads writes Rests Fails first result before (outside source later)
  after_flush ending result after none ends = record {
    course = ends.course;
    ends = after_at ends.course ending result after none ends.ends;
    rests = λ other. ends.rests (rests_still ending result after other);
  }

pub flushed : (writes : Type 0) (ending result : Ending) (before later : SinkState)
    → AfterFlush writes ending before later result → Flushes writes result before later
flushed writes Finished result before later (inl done) = rw done.0 done.1
flushed writes Differs result before later (inl done) = rw done.0 done.1
flushed writes BadLine result before later (inl done) = rw done.0 done.1
flushed writes InputTooLong result before later (inl done) = rw done.0 done.1
flushed writes Failed result before later done = rw done.0 done.1
flushed writes ReadFault result before later done = rw done.0 done.1
flushed writes WriteFault result before later done = rw done.0 tt
flushed writes _ result before later (inr fault) = rw fault.0 tt
