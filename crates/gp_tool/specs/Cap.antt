-- How the verb `cap` ends. In what follows `reads` and `writes` are facts where the source and the sink tell their bytes.
use Rattle.std.specs.Prelude.{◌≡◌, ◌⊎◌, ℕ, ◌++◌, Bool, true, false, List, [], ◌∷◌, take}
use Rattle.std.specs.List.{flat_map}
use Rattle.faults.specs.Faults.{next_count}
use Rattle.apdu_core.specs.Apdu.{Apdu}
use Rattle.cap_pack.specs.Cap.{CapOf}
use Rattle.cap_pack.specs.Input.{SpellLines, joining, within_cap_limit}
use Rattle.cap_pack.specs.Pack.{pack, send_line}
use Rattle.cap_pack.specs.Said.{stop_text}
use Rattle.cap_pack.specs.Stops.{StopsPacking}
use Rattle.cap_pack.specs.declared.stop.CapStop.{CapStop}
use Rattle.line_runs.specs.Ends.{IsCutOff, LinesCourse, LinesEndAt}
use Rattle.line_runs.specs.Outside.{Outside}
use Rattle.line_runs.specs.Taken.{AreAllTaken}
use Rattle.line_runs.specs.declared.ending.LinesEnd.TheVariants as lines
use Rattle.gp_tool.specs.Cardless.{CardlessEnds}
use Rattle.line_runs.specs.declared.exit.Ending.{Ending}
use Rattle.line_runs.specs.declared.exit.Ending.TheVariants.{Finished, Differs, BadLine, ReadFault, WriteFault, InputTooLong}

-- the line that is written of a command
abbrev pub pack_line : Apdu → List ℕ
pack_line command = send_line command ++ 10 ∷ []

-- what bytes come to: the lines of the commands that load and install, or where they are refused the text of the stop
abbrev pub ComesTo : List ℕ → Bool → List ℕ → Type 0
ComesTo bytes false text = (file : List ℕ) × (aids : List (List ℕ)) × CapOf bytes file aids × (text ≡ flat_map pack_line (pack file bytes aids))
ComesTo bytes true text = (stop : CapStop) × StopsPacking bytes stop × (text ≡ stop_text stop ++ 10 ∷ [])

-- what is written of bytes, whole or up to a fault
abbrev pub WritesJoined : List ℕ → Type 0 → List ℕ → List ℕ → Ending → Type 0
WritesJoined bytes writes old new Finished = (text : List ℕ) × ComesTo bytes false text × (writes → new ≡ old ++ text)
WritesJoined bytes writes old new Differs = (text : List ℕ) × ComesTo bytes true text × (writes → new ≡ old ++ text)
WritesJoined bytes writes old new WriteFault =
    (refused : Bool) × (text : List ℕ) × ComesTo bytes refused text × (writes → (count : ℕ) × (new ≡ old ++ take count text))
WritesJoined bytes writes old new ending = ⊥

-- the course of the lines that were joined, up to the end
abbrev pub CapCourse : Type 0 → (old new : Outside) → Type 0
CapCourse reads old new = LinesCourse joining reads (within_cap_limit []) old.source.left new.source.left

-- All lines were joined, and this text is what their bytes come to.
pub record Packs {reads : Type 0} (old new : Outside) (course : CapCourse reads old new) (refused : Bool) (text : List ℕ) : Type 0 where
  pub read : reads → AreAllTaken old.source.left course.given course.ahead
  pub bytes : List ℕ
  pub spelled : SpellLines course.given bytes
  pub come_to : ComesTo bytes refused text

-- the text was written
abbrev pub WritesPack : {reads : Type 0} → Type 0 → (old new : Outside) → CapCourse reads old new → Bool → Type 0
WritesPack writes old new course refused =
    (text : List ℕ) × Packs old new course refused text × (writes → new.sink.written ≡ old.sink.written ++ text)

-- What holds after the course where nothing has failed. The lines themselves write nothing.
abbrev pub CapFaultless : {reads : Type 0} → Type 0 → (old new : Outside) → CapCourse reads old new → Ending → Type 0
CapFaultless writes old new course Finished = WritesPack writes old new course false
CapFaultless writes old new course Differs = WritesPack writes old new course true
CapFaultless writes old new course BadLine = LinesEndAt writes old new course lines.BadLine
CapFaultless writes old new course InputTooLong = LinesEndAt writes old new course lines.InputTooLong
CapFaultless writes old new course ending = ⊥

-- a part of the text was written, and nothing was flushed
abbrev pub CutsPack : {reads : Type 0} → Type 0 → (old new : Outside) → CapCourse reads old new → Type 0
CutsPack writes old new course =
    (refused : Bool) × (text : List ℕ) × Packs old new course refused text × (new.sink.flushes ≡ old.sink.flushes)
    × (writes → (count : ℕ) × (new.sink.written ≡ old.sink.written ++ take count text))

-- What holds after the course at each ending. At a refused write or flush the text was cut, or all was written and its
-- flush was refused.
abbrev pub CapEndsAt : {reads : Type 0} → Type 0 → (old new : Outside) → CapCourse reads old new → Ending → Type 0
CapEndsAt writes old new course ReadFault = LinesEndAt writes old new course lines.ReadFault
CapEndsAt writes old new course WriteFault =
    IsCutOff writes old new course
    ⊎ CutsPack writes old new course
    ⊎ ((other : Ending) × CapFaultless writes old new course other × (new.sink.flushes ≡ next_count old.sink.flushes))
CapEndsAt writes old new course ending = CapFaultless writes old new course ending

-- The lines of a source were joined, up to an ending, which the status tells: 11 says that their bytes are no CAP file that can be packed.
abbrev pub CapEnds : (reads writes : Type 0) → ℕ → Outside → Outside → Type 0
CapEnds reads writes status old new = CardlessEnds 11 (CapEndsAt {reads = reads} writes old new) writes status old new
