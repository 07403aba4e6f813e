-- How `cap` ends, by how its lines were taken, what was written of their bytes, and how the flush was answered.
use Rattle.std.proofs.Common.{◌≡◌, ◌≢◌, ◌⊎◌, ℕ, ◌++◌, Bool, true, false, List, [], take, refl, ap, sym, subst, ◌∙◌, inl, inr}
use Rattle.std.specs.List.{concat, flat_map}
use Rattle.std.proofs.lemmas.List.{append-nil}
use Rattle.cap_pack.specs.Cap.{CapOf}
use Rattle.cap_pack.specs.Held.{IsCap, pack_of}
use Rattle.cap_pack.specs.Input.{SpellLines}
use Rattle.cap_pack.specs.Pack.{pack}
use Rattle.cap_pack.specs.declared.cap.Cap.{Cap}
use Rattle.faults.specs.Faults.{Rose}
use Rattle.io_edge.specs.Streams.{SinkState, SourceState}
use Rattle.line_runs.specs.Ends.{LinesEndAt}
use Rattle.line_runs.specs.Outside.{Outside, outside}
use Rattle.line_runs.specs.declared.ending.LinesEnd.{LinesEnd}
use Rattle.line_runs.specs.declared.ending.LinesEnd.TheVariants as lines
use Rattle.line_runs.specs.Exit.{ending_of_lines, status_with}
use Rattle.gp_tool.proofs.DeskEnding.{still_bad, still_cut, still_long, still_unread}
use Rattle.gp_tool.specs.Around.{around}
use Rattle.gp_tool.specs.Cap.{CapCourse, CapEndsAt, CapFaultless, ComesTo, Packs, WritesJoined, WritesPack, pack_line}
use Rattle.gp_tool.specs.Ends.{EndCause}
use Rattle.gp_tool.specs.Flush.{AfterFlush, IsFlushed}
use Rattle.line_runs.specs.declared.exit.Ending.{Ending}
use Rattle.line_runs.specs.declared.exit.Ending.TheVariants.{Finished, Differs, BadLine, Failed, ReadFault, WriteFault, InputTooLong}

-- the lines of a CAP file that was read are those that its bytes come to
pub packed : (cap : Cap) (aids : List (List ℕ)) (all : List ℕ) → cap.bytes.now ≡ all → IsCap cap aids → ComesTo all false (flat_map pack_line (pack_of cap aids))
packed cap aids all same is = (
  cap.package,
  aids,
  subst (λ (bytes : List ℕ). CapOf bytes cap.package aids) same is.is,
  ap (λ bytes. flat_map pack_line (pack cap.package bytes aids)) same,
)

-- all lines were joined, and something was written of their bytes
module _ {reads : Type 0} (writes : Type 0) (old : Outside) (source : SourceState) (mid later : SinkState) (course : CapCourse reads old (outside source mid))
    (at : LinesEndAt writes old (outside source mid) course lines.Finished) (bytes : List ℕ) (spelled : SpellLines course.given bytes)
    (none : concat course.texts ≡ []) (flushes : later.flushes ≡ old.sink.flushes) where
  -- the lines have written nothing
  silent : writes → mid.written ≡ old.sink.written
  silent told = at.1 told ∙ ap (λ text. old.sink.written ++ text) none ∙ append-nil old.sink.written

  packs : (refused : Bool) (text : List ℕ) → ComesTo bytes refused text → Packs old (outside source later) course refused text
  packs refused text comes = record { read = at.0; bytes = bytes; spelled = spelled; come_to = comes }

  whole : (text : List ℕ) → (writes → later.written ≡ mid.written ++ text) → writes → later.written ≡ old.sink.written ++ text
  whole text wrote told = wrote told ∙ ap (λ m. m ++ text) (silent told)

  pub finished_ends : (result : Ending) → WritesJoined bytes writes mid.written later.written result → CapEndsAt writes old (outside source later) course result
  finished_ends Finished (text, comes, wrote) = (text, packs false text comes, whole text wrote)
  finished_ends Differs (text, comes, wrote) = (text, packs true text comes, whole text wrote)
  finished_ends WriteFault (refused, text, comes, wrote) = inr (inl (
    refused,
    text,
    packs refused text comes,
    flushes,
    λ told. (let part = wrote told in (part.0, part.1 ∙ ap (λ m. m ++ take part.0 text) (silent told))),
  ))
  finished_ends BadLine wrote = absurd wrote
  finished_ends _ wrote = absurd wrote

-- the lines ended before the end of the input
pub stopped_ends : {reads : Type 0} (writes : Type 0) (old new : Outside) (course : CapCourse reads old new) (end : LinesEnd) → end ≢ lines.Finished
    → LinesEndAt writes old new course end → CapEndsAt writes old new course (ending_of_lines end false)
stopped_ends writes old new course lines.Finished other at = absurd (other refl)
stopped_ends writes old new course lines.WriteFault other at = inl at
stopped_ends writes old new course lines.Failed other at = (let fault = at.0 in absurd fault.fails)
stopped_ends writes old new course _ other at = at

-- they did not end with a bad line, nor with an input that is too long
pub stopped_well : (end : LinesEnd) → end ≢ lines.BadLine → end ≢ lines.InputTooLong → (ending_of_lines end false ≢ BadLine) × (ending_of_lines end false ≢ InputTooLong)
stopped_well lines.BadLine good short = absurd (good refl)
stopped_well lines.InputTooLong good short = absurd (short refl)
stopped_well _ good short = (λ is. cc is, λ is. cc is)

-- what is written of bytes never ends so
pub written_well : (bytes : List ℕ) (writes : Type 0) (old new : List ℕ) (result : Ending) → WritesJoined bytes writes old new result → (result ≢ BadLine) × (result ≢ InputTooLong)
written_well bytes writes old new Finished wrote = (λ is. cc is, λ is. cc is)
written_well bytes writes old new Differs wrote = (λ is. cc is, λ is. cc is)
written_well bytes writes old new WriteFault wrote = (λ is. cc is, λ is. cc is)
written_well bytes writes old new _ wrote = absurd wrote

-- a flush keeps what holds
module _ {reads : Type 0} (writes : Type 0) (old : Outside) (source : SourceState) (now later : SinkState) (same : writes → later.written ≡ now.written)
    (none : now.flushes ≡ old.sink.flushes) (course : CapCourse reads old (outside source now)) where
  abbrev Faultless : SinkState → Ending → Type 0
  Faultless sink ending = CapFaultless writes old (outside source sink) course ending

  abbrev At : SinkState → Ending → Type 0
  At sink ending = CapEndsAt writes old (outside source sink) course ending

  still_packs : (refused : Bool) (text : List ℕ) → Packs old (outside source now) course refused text → Packs old (outside source later) course refused text
  still_packs refused text p = record { read = p.read; bytes = p.bytes; spelled = p.spelled; come_to = p.come_to }

  still_written : (refused : Bool) → WritesPack writes old (outside source now) course refused → WritesPack writes old (outside source later) course refused
  still_written refused (text, p, wrote) = (text, still_packs refused text p, λ told. same told ∙ wrote told)

  still_faultless : (ending : Ending) → Faultless now ending → Faultless later ending
  still_faultless Finished at = still_written false at
  still_faultless Differs at = still_written true at
  still_faultless BadLine at = still_bad writes old source now later same course at
  still_faultless InputTooLong at = still_long writes old source now later same course at
  still_faultless _ at = absurd at

  flush_at : (ending result : Ending) → Faultless now ending → (Faultless later ending → At later ending) → IsFlushed writes ending old.sink later result → At later result
  flush_at ending result at ends (inl done) = rw done.0 (ends (still_faultless ending at))
  flush_at ending result at ends (inr refused) = rw refused.0 (inr (inr (ending, still_faultless ending at, refused.1)))

  pub cap_ends : (ending result : Ending) → At now ending → AfterFlush writes ending old.sink later result → At later result
  cap_ends Finished result at after = flush_at Finished result at (λ it. it) after
  cap_ends Differs result at after = flush_at Differs result at (λ it. it) after
  cap_ends BadLine result at after = flush_at BadLine result at (λ it. it) after
  cap_ends InputTooLong result at after = flush_at InputTooLong result at (λ it. it) after
  cap_ends Failed result at after = absurd at
  cap_ends ReadFault result at after = rw after.0 (still_unread writes old source now later same course at)
  cap_ends WriteFault result (inl cut) after = rw after.0 (inl (still_cut writes old source now later same course after.1 cut))
  cap_ends WriteFault result (inr (inl (refused, text, p, flushes, wrote))) after =
      rw after.0 (inr (inl (refused, text, still_packs refused text p, after.1, λ told. (let part = wrote told in (part.0, same told ∙ part.1)))))
  cap_ends WriteFault result (inr (inr (other, at, once))) after = rw after.0 (inr (inr (other, still_faultless other at, after.1 ∙ sym none ∙ once)))

-- where nothing has failed and each line was good, all is done
pub cap_done : {reads : Type 0} (writes : Type 0) (old new : Outside) (course : CapCourse reads old new) (result : Ending) (source source' sink sink' : ℕ)
    → CapEndsAt writes old new course result → EndCause result (around source sink 0) (around source' sink' 0) → (Rose source source' → ⊥) → (Rose sink sink' → ⊥)
    → result ≢ BadLine → result ≢ InputTooLong → (status_with 11 result ≡ 0) ⊎ (status_with 11 result ≡ 11) ⊎ (status_with 11 result ≡ 7)
cap_done writes old new course Finished source source' sink sink' at cause unread unwritten good short = inl refl
cap_done writes old new course Differs source source' sink sink' at cause unread unwritten good short = inr (inl refl)
cap_done writes old new course BadLine source source' sink sink' at cause unread unwritten good short = absurd (good refl)
cap_done writes old new course InputTooLong source source' sink sink' at cause unread unwritten good short = absurd (short refl)
cap_done writes old new course Failed source source' sink sink' at cause unread unwritten good short = absurd at
cap_done writes old new course ReadFault source source' sink sink' at cause unread unwritten good short = absurd (unread cause)
cap_done writes old new course WriteFault source source' sink sink' at cause unread unwritten good short = absurd (unwritten cause.1)

-- an ending that is neither stays so over a flush, which may make it a write fault
pub flushed_well : (ending result : Ending) → (ending ≢ BadLine) × (ending ≢ InputTooLong) → (result ≡ ending) ⊎ (result ≡ WriteFault)
    → (result ≢ BadLine) × (result ≢ InputTooLong)
flushed_well ending result well (inl same) = (λ is. well.0 (sym same ∙ is), λ is. well.1 (sym same ∙ is))
flushed_well ending result well (inr fault) = (
  λ is. (let wrong = sym fault ∙ is in cc wrong),
  λ is. (let wrong = sym fault ∙ is in cc wrong),
)
