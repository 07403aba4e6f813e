-- Whose count of faults has risen at each ending, and that a good script is played to its end.
use Rattle.std.proofs.Common.{◌≡◌, ◌≢◌, ◌⊎◌, ℕ, ◌≤◌, Bool, true, false, List, [], ◌∷◌, length, Option, Some, None, refl, sym, ap, subst, ◌∙◌, inl, inr}
use Rattle.std.specs.List.{AllByRecursion}
use Rattle.std.specs.Str.Lines.{lines}
use Rattle.faults.specs.Faults.{Rose}
use Rattle.io_edge.specs.Streams.{SinkState, SourceState}
use Rattle.io_edge.specs.declared.line.TheConstants.{LINE_LIMIT}
use Rattle.io_edge.specs.declared.sink.Sink.{Ghosts as Sink}
use Rattle.io_edge.specs.declared.source.Source.{Ghosts as Source}
use Rattle.line_runs.specs.Ends.{AreTakable, Faults, IsTakableInput, LinesEndCause, fault_counts}
use Rattle.line_runs.specs.declared.ending.LinesEnd.{LinesEnd}
use Rattle.line_runs.specs.declared.ending.LinesEnd.TheVariants as lines
use Rattle.script_tool.specs.Workload.{SaysSome}
use Rattle.line_runs.specs.Exit.{exit_status}
use Rattle.host_tool.proofs.Reached.{Reached}
use Rattle.host_tool.specs.Ends.{HasEnded, HasExchanged, HostCause, HostCourse, IsGoodScript, NoneRefused, Streams, Tells, flow}
use Rattle.host_tool.specs.Flush.{Flushed, HandedOn, HostFlushes}
use Rattle.host_tool.specs.Ending.{host_ending}
use Rattle.host_tool.specs.Takes.{Hosting, host_taker}
use Rattle.line_runs.specs.declared.exit.Ending.{Ending}
use Rattle.line_runs.specs.declared.exit.Ending.TheVariants.{Finished, Differs, BadLine, Failed, ReadFault, WriteFault, InputTooLong}
use Rattle.host_tool.specs.declared.fault.LinkFault.{LinkFault}
use Rattle.host_tool.specs.declared.fault.LinkFault.TheVariants as fault

module _ {S K : Type 0} (source : Source S) (sink : Sink K) where
  -- lines that say something can be taken from each state
  all_takable : (given : List (List ℕ)) (at : Hosting S K) → AllByRecursion (λ line. SaysSome line × (length line ≤ LINE_LIMIT)) given
      → AreTakable (host_taker source sink) at given
  all_takable [] at good = tt
  all_takable (line ∷ given) at (one, good) = (one.0, one.1, λ next text takes. all_takable given next good)

  pub good_script : (at : Hosting S K) (input : List ℕ) → IsGoodScript input → IsTakableInput (host_taker source sink) at input
  good_script at input good = (all_takable (lines input) at good.0, good.1)

-- before the flush
module _ (tells : Tells) (old mid : Streams) (course : HostCourse tells.script old.script.left mid.script.left) where
  all_same : (n m : ℕ) → HasExchanged tells old mid course → fault_counts mid.script.faults mid.transcript.faults m ≡ fault_counts old.script.faults old.transcript.faults n
      → (mid.script.faults ≡ old.script.faults) × (mid.replies.faults ≡ old.replies.faults) × (mid.commands.faults ≡ old.commands.faults) × (mid.transcript.faults ≡ old.transcript.faults)
  all_same n m spoke same =
      (let exchanged = spoke.1 in (ap (λ (f : Faults). f.source) same, exchanged.unread, exchanged.unwritten, ap (λ (f : Faults). f.sink) same))

  no_answer : (n m : ℕ) → HasEnded tells old mid course Failed
      → LinesEndCause lines.Failed (fault_counts old.script.faults old.transcript.faults n) (fault_counts mid.script.faults mid.transcript.faults m) → HostCause Failed old mid
  no_answer n m at cause =
      (let asked = at.0 in
      let vain = asked.vain in
      let exchanged = vain.before in
      (cause.0, vain.unwritten ∙ exchanged.unwritten, cause.1))

  pub reached_cause : (end : LinesEnd) (differs : Bool) (why : Option LinkFault) (n m : ℕ) → Reached tells old mid course (host_ending end differs why)
      → LinesEndCause end (fault_counts old.script.faults old.transcript.faults n) (fault_counts mid.script.faults mid.transcript.faults m) → HostCause (host_ending end differs why) old mid
  reached_cause lines.Finished false why n m at cause = all_same n m at.2 cause
  reached_cause lines.Finished true why n m at cause = all_same n m at.2 cause
  reached_cause lines.BadLine differs why n m at cause = all_same n m at.1 cause
  reached_cause lines.InputTooLong differs why n m at cause = all_same n m at.1 cause
  reached_cause lines.ReadFault differs why n m at cause =
      (let spoke = at.1 in let exchanged = spoke.1 in (cause.0, exchanged.unread, exchanged.unwritten, cause.1))
  reached_cause lines.WriteFault differs why n m (inl at) cause = (let commands = at.0 in let cut = commands.cut in inl cut.rose)
  reached_cause lines.WriteFault differs why n m (inr at) cause = inr at.1
  reached_cause lines.Failed differs None n m at cause = no_answer n m at cause
  reached_cause lines.Failed differs (Some fault.WriteFault) n m (inl at) cause = (let commands = at.0 in let cut = commands.cut in inl cut.rose)
  reached_cause lines.Failed differs (Some fault.WriteFault) n m (inr at) cause = inr at.1
  reached_cause lines.Failed differs (Some (fault.BadReply k)) n m at cause = no_answer n m at cause
  reached_cause lines.Failed differs (Some fault.Ended) n m at cause = no_answer n m at cause
  reached_cause lines.Failed differs (Some fault.ReadFault) n m at cause = no_answer n m at cause
  reached_cause lines.Failed differs (Some fault.TooMany) n m at cause = no_answer n m at cause

-- after it
module _ (writes : Type 0) (old : Streams) (script replies : SourceState) (commands now later : SinkState) where
  abbrev at_now : Streams
  at_now = flow script replies commands now

  abbrev at_last : Streams
  at_last = flow script replies commands later

  risen : now.faults ≡ old.transcript.faults → Rose now.faults later.faults → HostCause WriteFault old at_last
  risen same rose = inr (subst (λ (n : ℕ). Rose n later.faults) same rose)

  pub flushed_cause : (ending result : Ending) → HostCause ending old at_now → HostFlushes writes ending now later result → HostCause result old at_last
  flushed_cause WriteFault result (inl rose) (is, same) = rw is (inl rose)
  flushed_cause WriteFault result (inr rose) (is, same) = rw is (inr (subst (λ (t : SinkState). Rose old.transcript.faults t.faults) (sym same) rose))
  flushed_cause Finished result (a, b, c, d) (flushed, inl (is, handed)) = rw is (a, b, c, handed.quiet ∙ d)
  flushed_cause Finished result (a, b, c, d) (flushed, inr (is, rose)) = rw is (risen d rose)
  flushed_cause Differs result (a, b, c, d) (flushed, inl (is, handed)) = rw is (a, b, c, handed.quiet ∙ d)
  flushed_cause Differs result (a, b, c, d) (flushed, inr (is, rose)) = rw is (risen d rose)
  flushed_cause BadLine result (a, b, c, d) (flushed, inl (is, handed)) = rw is (a, b, c, handed.quiet ∙ d)
  flushed_cause BadLine result (a, b, c, d) (flushed, inr (is, rose)) = rw is (risen d rose)
  flushed_cause InputTooLong result (a, b, c, d) (flushed, inl (is, handed)) = rw is (a, b, c, handed.quiet ∙ d)
  flushed_cause InputTooLong result (a, b, c, d) (flushed, inr (is, rose)) = rw is (risen d rose)
  flushed_cause ReadFault result (a, b, c, d) (flushed, inl (is, handed)) = rw is (a, b, c, handed.quiet ∙ d)
  flushed_cause ReadFault result (a, b, c, d) (flushed, inr (is, rose)) = rw is (risen d rose)
  flushed_cause Failed result (a, b, c) (flushed, inl (is, handed)) = rw is (a, b, handed.quiet ∙ c)
  flushed_cause Failed result (a, b, c) (flushed, inr (is, rose)) = rw is (risen c rose)

-- a flush keeps an ending, or makes it a write fault
module _ (writes : Type 0) (old new : SinkState) where
  kept_or_not : {ending result : Ending}
      → Flushed writes old new × (((result ≡ ending) × HandedOn writes old new) ⊎ ((result ≡ WriteFault) × Rose old.faults new.faults))
      → (result ≡ ending) ⊎ (result ≡ WriteFault)
  kept_or_not (flushed, inl done) = inl done.0
  kept_or_not (flushed, inr refused) = inr refused.0

  pub flush_keeps : (ending result : Ending) → HostFlushes writes ending old new result → (result ≡ ending) ⊎ (result ≡ WriteFault)
  flush_keeps WriteFault result after = inr after.0
  flush_keeps Finished result after = kept_or_not after
  flush_keeps Differs result after = kept_or_not after
  flush_keeps BadLine result after = kept_or_not after
  flush_keeps Failed result after = kept_or_not after
  flush_keeps ReadFault result after = kept_or_not after
  flush_keeps InputTooLong result after = kept_or_not after

-- no line is bad, and the script is short enough
abbrev pub IsGood : Ending → Type 0
IsGood BadLine = ⊥
IsGood InputTooLong = ⊥
IsGood ending = Unit {0}

good_end : (end : LinesEnd) (differs : Bool) (why : Option LinkFault) → end ≢ lines.BadLine → end ≢ lines.InputTooLong → IsGood (host_ending end differs why)
good_end lines.Finished false why bad long = tt
good_end lines.Finished true why bad long = tt
good_end lines.BadLine differs why bad long = absurd (bad refl)
good_end lines.InputTooLong differs why bad long = absurd (long refl)
good_end lines.ReadFault differs why bad long = tt
good_end lines.WriteFault differs why bad long = tt
good_end lines.Failed differs None bad long = tt
good_end lines.Failed differs (Some fault.WriteFault) bad long = tt
good_end lines.Failed differs (Some (fault.BadReply n)) bad long = tt
good_end lines.Failed differs (Some fault.Ended) bad long = tt
good_end lines.Failed differs (Some fault.ReadFault) bad long = tt
good_end lines.Failed differs (Some fault.TooMany) bad long = tt

pub good_result : (end : LinesEnd) (differs : Bool) (why : Option LinkFault) (result : Ending) → end ≢ lines.BadLine → end ≢ lines.InputTooLong
    → (result ≡ host_ending end differs why) ⊎ (result ≡ WriteFault) → IsGood result
good_result end differs why result bad long (inl is) = subst IsGood (sym is) (good_end end differs why bad long)
good_result end differs why result bad long (inr is) = subst IsGood (sym is) tt

-- where nothing has failed, the script was played to its end, or the card did not answer
pub script_done : (result : Ending) (old new : Streams) → IsGood result → HostCause result old new → NoneRefused old new
    → (exit_status result ≡ 0) ⊎ (exit_status result ≡ 8) ⊎ (exit_status result ≡ 3)
script_done Finished old new good cause faultless = inl refl
script_done Differs old new good cause faultless = inr (inl refl)
script_done Failed old new good cause faultless = inr (inr refl)
script_done BadLine old new good cause faultless = absurd good
script_done InputTooLong old new good cause faultless = absurd good
script_done ReadFault old new good cause faultless = absurd (faultless.script cause.0)
script_done WriteFault old new good (inl rose) faultless = absurd (faultless.commands rose)
script_done WriteFault old new good (inr rose) faultless = absurd (faultless.transcript rose)
