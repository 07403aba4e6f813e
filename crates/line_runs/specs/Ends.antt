-- How the taking of lines ends, and what has been read and written then.
use Rattle.std.specs.Prelude.{◌≡◌, ◌⊎◌, ℕ, ◌+◌, ◌<◌, ◌≤◌, List, [], ◌∷◌, ◌++◌, length}
use mathlib.Core.Logic.{inl, inr}
use Rattle.std.specs.List.{AllByRecursion}
use Rattle.std.specs.Str.Lines.{lines}
use Rattle.faults.specs.Faults.{Rose}
use Rattle.io_edge.specs.Lines.{IsNextLine}
use Rattle.io_edge.specs.declared.line.TheConstants.{INPUT_LIMIT, LINE_LIMIT}
use Rattle.line_runs.specs.Outside.{CutsText, Outside, Wrote, bad_line}
use Rattle.line_runs.specs.Taken.{AreAllTaken, ComeFirst, HoldsNoLine, IsBadLine, IsShortCut, TakesNoMore, room_ahead}
use Rattle.line_runs.specs.Taker.{LineStep, Taker}
use Rattle.line_runs.specs.declared.ending.LinesEnd.{LinesEnd}
use Rattle.line_runs.specs.declared.ending.LinesEnd.TheVariants.{Finished, BadLine, Failed, ReadFault, WriteFault, InputTooLong}

-- the taker takes one line after the other, each with its text
abbrev pub TakesLines : {T : Type 0} → LineStep T → T → List (List ℕ) → T → List (List ℕ) → Type 0
TakesLines takes at [] last texts = (last ≡ at) × (texts ≡ [])
TakesLines {T} takes at (line ∷ lines) last texts =
    (next : T) × (text : List ℕ) × (more : List (List ℕ)) × takes at line next text × TakesLines takes next lines last more × (texts ≡ text ∷ more)

-- each line has a form where the taking comes to it, and is not too long
abbrev pub AreTakable : {T : Type 0} → Taker T → T → List (List ℕ) → Type 0
AreTakable does at [] = Unit {0}
AreTakable {T} does at (line ∷ lines) =
    does.has_form at line × (length line ≤ LINE_LIMIT) × ((next : T) (text : List ℕ) → does.takes at line next text → AreTakable does next lines)

-- each line of the input has a form and is not too long, and the input is short enough
abbrev pub IsTakableInput : {T : Type 0} → Taker T → T → List ℕ → Type 0
IsTakableInput does first input = AreTakable does first (lines input) × (length input < INPUT_LIMIT)

-- In what follows `reads` and `writes` are facts where the source and the sink tell their bytes, and `⊥` where they don't.

-- The course up to the end: the lines that were taken, each of a form and not too long, what they wrote, the state after them, and
-- what stands ahead of the next line.
pub record LinesCourse {T : Type 0} (does : Taker T) (reads : Type 0) (first : T) (input left : List ℕ) : Type 0 where
  pub given : List (List ℕ)
  pub texts : List (List ℕ)
  pub last : T
  pub ahead : List ℕ
  pub fits : AllByRecursion (λ line. length line ≤ LINE_LIMIT) given
  pub played : TakesLines does.takes first given last texts
  pub reached : reads → ComeFirst INPUT_LIMIT input given ahead
  pub taken : reads → TakesNoMore (length input) ahead left

-- the next line is malformed in the state after the course, or too long
abbrev pub IsNextRefused : {T : Type 0} {does : Taker T} {reads : Type 0} {first : T} {input left : List ℕ} → LinesCourse does reads first input left → Type 0
IsNextRefused {does = does} {reads = reads} {input = input} course = reads → IsBadLine (does.has_form course.last) (room_ahead input course.ahead) course.ahead

-- the texts, and the number of a bad line after them
abbrev pub texts_with_bad_line : {T : Type 0} {does : Taker T} {reads : Type 0} {first : T} {input left : List ℕ} → LinesCourse does reads first input left → List (List ℕ)
texts_with_bad_line course = course.texts ++ bad_line (length course.given + 1) ∷ []

-- The taker fails in the next line of what is ahead: the state that is left, and what is written.
pub record TakerFailsNext {T : Type 0} (does : Taker T) (reads : Type 0) (at : T) (room : ℕ) (ahead : List ℕ) : Type 0 where
  pub line : List ℕ
  pub next : reads → (after : List ℕ) × IsNextLine room ahead line after
  pub fits : length line ≤ LINE_LIMIT
  pub left : T
  pub text : List ℕ
  pub fails : does.fails at line left text

-- it does so after the course
abbrev pub FailsAfter : {T : Type 0} {does : Taker T} {reads : Type 0} {first : T} {input left : List ℕ} → LinesCourse does reads first input left → Type 0
FailsAfter {does = does} {reads = reads} {input = input} course = TakerFailsNext does reads course.last (room_ahead input course.ahead) course.ahead

-- the last of the texts was refused, or the number of a bad line after them, or the text of a line in which the taker failed
abbrev pub IsCutOff : {T : Type 0} {does : Taker T} {reads : Type 0} {first : T} → Type 0 → (old new : Outside) → LinesCourse does reads first old.source.left new.source.left → Type 0
IsCutOff writes old new course =
    ((earlier : List (List ℕ)) × (text : List ℕ) × (course.texts ≡ earlier ++ text ∷ []) × CutsText writes earlier text old new)
    ⊎ (IsNextRefused course × CutsText writes course.texts (bad_line (length course.given + 1)) old new)
    ⊎ ((fault : FailsAfter course) × CutsText writes course.texts fault.text old new)

-- what holds after the course: why no further line was taken, and what was written
abbrev pub LinesEndAt : {T : Type 0} {does : Taker T} {reads : Type 0} {first : T} → Type 0 → (old new : Outside) → LinesCourse does reads first old.source.left new.source.left → LinesEnd → Type 0
LinesEndAt {reads = reads} writes old new course Finished = (reads → AreAllTaken old.source.left course.given course.ahead) × Wrote writes course.texts old new
LinesEndAt writes old new course BadLine = IsNextRefused course × Wrote writes (texts_with_bad_line course) old new
LinesEndAt {reads = reads} writes old new course InputTooLong =
    (reads → IsShortCut (room_ahead old.source.left course.ahead) course.ahead) × Wrote writes course.texts old new
LinesEndAt {reads = reads} writes old new course ReadFault = (reads → HoldsNoLine course.ahead new.source.left) × Wrote writes course.texts old new
LinesEndAt writes old new course WriteFault = IsCutOff writes old new course
LinesEndAt writes old new course Failed = (fault : FailsAfter course) × Wrote writes (course.texts ++ fault.text ∷ []) old new

-- the state that is left: that after the course, or after the line in which the taker failed
abbrev pub left_at : {T : Type 0} {does : Taker T} {reads : Type 0} {first : T} (writes : Type 0) (old new : Outside) (course : LinesCourse does reads first old.source.left new.source.left) (end : LinesEnd) → LinesEndAt writes old new course end → T
left_at writes old new course Finished at = course.last
left_at writes old new course BadLine at = course.last
left_at writes old new course InputTooLong at = course.last
left_at writes old new course ReadFault at = course.last
left_at writes old new course WriteFault (inl at) = course.last
left_at writes old new course WriteFault (inr (inl at)) = course.last
left_at writes old new course WriteFault (inr (inr at)) = at.0.left
left_at writes old new course Failed at = at.0.left

-- The lines of a source were taken from a first state, up to this end, and this is the state that is left.
pub record LinesEnds {T : Type 0} (does : Taker T) (reads writes : Type 0) (first last : T) (end : LinesEnd) (old new : Outside) : Type 0 where
  pub course : LinesCourse does reads first old.source.left new.source.left
  pub ends : LinesEndAt writes old new course end
  pub rests : last ≡ left_at writes old new course end ends

-- how many faults a source, a sink and a taker have
pub record Faults : Type 0 where
  pub source : ℕ
  pub sink : ℕ
  pub taker : ℕ

abbrev pub fault_counts : ℕ → ℕ → ℕ → Faults
fault_counts source sink taker = record { source = source; sink = sink; taker = taker }

-- Whose count has risen at an end, or that all are as they were. A write that is refused after the taker failed raises both.
abbrev pub LinesEndCause : LinesEnd → Faults → Faults → Type 0
LinesEndCause ReadFault old new = Rose old.source new.source × (new.sink ≡ old.sink) × (new.taker ≡ old.taker)
LinesEndCause WriteFault old new = (new.source ≡ old.source) × Rose old.sink new.sink × ((new.taker ≡ old.taker) ⊎ Rose old.taker new.taker)
LinesEndCause Failed old new = (new.source ≡ old.source) × (new.sink ≡ old.sink) × Rose old.taker new.taker
LinesEndCause end old new = new ≡ old
