-- For the code inside. What one more line does, and how the taking of lines ends with it.
use Rattle.std.specs.List.{AllByRecursion}
use Rattle.std.specs.Prelude.{◌≡◌, ◌⊎◌, ℕ, ◌+◌, ◌<◌, ◌≤◌, List, [], ◌++◌, length, take, None}
use Rattle.io_edge.specs.Lines.{Reading, IsNextLine, IsWithin, ahead, room}
use Rattle.io_edge.specs.declared.line.TheConstants.{LINE_LIMIT, INPUT_LIMIT}
use Rattle.line_runs.specs.Ends.{TakesLines}
use Rattle.line_runs.specs.Outside.{Outside, bad_line, Wrote}
use Rattle.line_runs.specs.Taken.{HoldsNoLine, IsBadLine, IsShortCut, TakesNoMore, ComeFirst}
use Rattle.line_runs.specs.Taker.{LineStep, Taker}
use Rattle.line_runs.specs.declared.ending.LinesEnd.{LinesEnd}
use Rattle.line_runs.specs.declared.ending.LinesEnd.TheVariants.{Finished, BadLine, Failed, ReadFault, WriteFault, InputTooLong}

-- The next line of what is ahead, within the room, was taken so.
pub record TakesNext {T : Type 0} (takes : LineStep T) (reads : Type 0) (at at' : T) (text : List ℕ) (room : ℕ) (ahead after : List ℕ) : Type 0 where
  pub line : List ℕ
  pub next : reads → IsNextLine room ahead line after
  pub fits : length line ≤ LINE_LIMIT
  pub taken : takes at line at' text

-- It goes on after a line, whose text was written.
pub record LinesGoOn {T : Type 0} (does : Taker T) (reads writes : Type 0) (at at' : T) (old new : Reading) (before now : Outside) : Type 0 where
  pub stop : new.stop ≡ None
  pub number : new.number ≡ old.number + 1
  pub within : IsWithin new
  pub further : old.passed < new.passed
  pub passed : reads → new.passed + length (ahead new now.source.left) ≡ old.passed + length (ahead old before.source.left)
  pub text : List ℕ
  pub line : TakesNext does.takes reads at at' text (room old) (ahead old before.source.left) (ahead new now.source.left)
  pub written : writes → now.sink.written ≡ before.sink.written ++ text

-- how many bytes an input has of which so many were passed
abbrev pub total : Reading → Outside → ℕ
total old before = old.passed + length (ahead old before.source.left)

-- what was taken of what stood ahead
abbrev pub TakesFew : Type 0 → Reading → Outside → Outside → Type 0
TakesFew reads old before now = reads → TakesNoMore (total old before) (ahead old before.source.left) now.source.left

-- nothing more was written
abbrev pub Silent : Type 0 → Outside → Outside → Type 0
Silent writes before now = writes → now.sink.written ≡ before.sink.written

-- what is written of a bad line, whole or up to a fault
abbrev pub WritesBadLine : Type 0 → ℕ → List ℕ → List ℕ → LinesEnd → Type 0
WritesBadLine writes number old new BadLine = writes → new ≡ old ++ bad_line number
WritesBadLine writes number old new WriteFault = writes → (n : ℕ) × (new ≡ old ++ take n (bad_line number))
WritesBadLine writes number old new end = ⊥

-- what is written of a line in which the taker failed, whole or up to a fault
abbrev pub WritesAtFault : Type 0 → List ℕ → List ℕ → List ℕ → LinesEnd → Type 0
WritesAtFault writes text old new Failed = writes → new ≡ old ++ text
WritesAtFault writes text old new WriteFault = writes → (n : ℕ) × (new ≡ old ++ take n text)
WritesAtFault writes text old new end = ⊥

-- the next line is bad, and was refused
abbrev pub EndsAtBadLine : {T : Type 0} → Taker T → Type 0 → Type 0 → T → Reading → Outside → Outside → LinesEnd → Type 0
EndsAtBadLine does reads writes at old before now end =
    (reads → IsBadLine (does.has_form at) (room old) (ahead old before.source.left)) × WritesBadLine writes (old.number + 1) before.sink.written now.sink.written end
    × TakesFew reads old before now

-- The text of the next line was refused.
pub record CutsNext {T : Type 0} (does : Taker T) (reads writes : Type 0) (at at' : T) (old : Reading) (before now : Outside) : Type 0 where
  pub after : List ℕ
  pub text : List ℕ
  pub line : TakesNext does.takes reads at at' text (room old) (ahead old before.source.left) after
  pub cut : writes → (n : ℕ) × (now.sink.written ≡ before.sink.written ++ take n text)
  pub few : reads → TakesNoMore (total old before) after now.source.left

-- The taker failed in the next line, of whose text this holds.
pub record FailsOn {T : Type 0} (does : Taker T) (reads : Type 0) (at at' : T) (old : Reading) (before now : Outside) (Writes : List ℕ → Type 0) : Type 0 where
  pub after : List ℕ
  pub text : List ℕ
  pub line : TakesNext does.fails reads at at' text (room old) (ahead old before.source.left) after
  pub written : Writes text
  pub few : TakesFew reads old before now

-- the text was written, or refused
abbrev pub Whole : Type 0 → Outside → Outside → List ℕ → Type 0
Whole writes before now text = writes → now.sink.written ≡ before.sink.written ++ text

abbrev pub Cut : Type 0 → Outside → Outside → List ℕ → Type 0
Cut writes before now text = writes → (n : ℕ) × (now.sink.written ≡ before.sink.written ++ take n text)

-- the input is at its end
abbrev pub IsAtEnd : Type 0 → Type 0 → Reading → Outside → Outside → Type 0
IsAtEnd reads writes old before now =
    (reads → ahead old before.source.left ≡ []) × (reads → 0 < room old) × (reads → now.source.left ≡ []) × Silent writes before now

-- It ends with what is ahead.
abbrev pub LinesEndWith : {T : Type 0} → Taker T → (reads writes : Type 0) → (at at' : T) → Reading → (before now : Outside) → LinesEnd → Type 0
LinesEndWith does reads writes at at' old before now Finished = (at' ≡ at) × IsAtEnd reads writes old before now
LinesEndWith does reads writes at at' old before now BadLine = (at' ≡ at) × EndsAtBadLine does reads writes at old before now BadLine
LinesEndWith does reads writes at at' old before now ReadFault =
    (at' ≡ at) × (reads → HoldsNoLine (ahead old before.source.left) now.source.left) × Silent writes before now × TakesFew reads old before now
LinesEndWith does reads writes at at' old before now InputTooLong =
    (at' ≡ at) × (reads → IsShortCut (room old) (ahead old before.source.left)) × Silent writes before now × TakesFew reads old before now
LinesEndWith does reads writes at at' old before now WriteFault =
    CutsNext does reads writes at at' old before now
    ⊎ ((at' ≡ at) × EndsAtBadLine does reads writes at old before now WriteFault)
    ⊎ FailsOn does reads at at' old before now (Cut writes before now)
LinesEndWith does reads writes at at' old before now Failed = FailsOn does reads at at' old before now (Whole writes before now)

-- The taking of lines that goes on, between two lines.

-- The lines that were given have their texts written, and the reading stands after them.
pub record LinesGoing {T : Type 0} (does : Taker T) (reads writes : Type 0) (first at : T) (before now : Outside) (reading : Reading) : Type 0 where
  pub given : List (List ℕ)
  pub texts : List (List ℕ)
  pub number : reading.number ≡ length given
  pub passed : reads → reading.passed + length (ahead reading now.source.left) ≡ length before.source.left
  pub fits : AllByRecursion (λ line. length line ≤ LINE_LIMIT) given
  pub played : TakesLines does.takes first given at texts
  pub reached : reads → ComeFirst INPUT_LIMIT before.source.left given (ahead reading now.source.left)
  pub written : Wrote writes texts before now
