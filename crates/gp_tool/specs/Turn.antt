-- For the code inside. What one more line does to a run, and how a run ends with it. `reads` and `writes` are facts where source
-- and sink tell their bytes.
use Rattle.std.specs.Prelude.{◌≡◌, ◌⊎◌, ℕ, ◌+◌, ◌<◌, ◌≤◌, false, true, List, [], ◌∷◌, ◌++◌, length, take, None}
use Rattle.std.specs.List.{concat}
use Rattle.io_edge.specs.Lines.{Reading, IsNextLine, IsWithin, ahead, room}
use Rattle.io_edge.specs.declared.line.TheConstants.{LINE_LIMIT}
use Rattle.flash_core.specs.declared.flash.Flash.{Ghosts as Flash}
use Rattle.gp_tool.specs.Effects.{LinePlace}
use Rattle.gp_tool.specs.Ends.{IsBad}
use Rattle.line_runs.specs.Outside.{Outside, bad_line}
use Rattle.line_runs.specs.Taken.{HoldsNoLine, IsShortCut, TakesNoMore}
use Rattle.line_runs.specs.Turn.{IsAtEnd, Silent, TakesFew, total}
use Rattle.gp_tool.specs.RunsLines.{FailsLine, Memory, PlaysLine}
use Rattle.gp_tool.specs.Serve.{BreaksLine, RunsLine, Standing, StandsAt}
use Rattle.gp_tool.specs.Standing.{Held, Means}
use Rattle.line_runs.specs.declared.exit.Ending.{Ending}
use Rattle.line_runs.specs.declared.exit.Ending.TheVariants.{Finished, Differs, BadLine, Failed, ReadFault, WriteFault, InputTooLong}
use Rattle.gp_tool.specs.declared.verb.Verb.{Verb}

-- The next line of what is ahead, within the room, was played from a place.
pub record TakesLine {F : Type 0} (verb : Verb) (device : Flash F) (reads : Type 0) (number : ℕ) (at at' : Standing F (Held verb)) (place : LinePlace (Memory verb)) (room : ℕ) (ahead after : List ℕ) : Type 0 where
  pub line : List ℕ
  pub next : reads → IsNextLine room ahead line after
  pub fits : length line ≤ LINE_LIMIT
  pub played : RunsLine (Means verb) (PlaysLine verb number line) device at at' place

-- The device failed in a command of the next line.
pub record BreaksNext {F : Type 0} (verb : Verb) (device : Flash F) (reads : Type 0) (at at' : Standing F (Held verb)) (place : LinePlace (Memory verb)) (room : ℕ) (ahead : List ℕ) : Type 0 where
  pub line : List ℕ
  pub next : reads → (after : List ℕ) × IsNextLine room ahead line after
  pub fits : length line ≤ LINE_LIMIT
  pub breaks : BreaksLine (FailsLine verb line) device at at' place

-- The run goes on after a line, whose texts were written.
pub record GoesOn {F : Type 0} (verb : Verb) (device : Flash F) (reads writes : Type 0) (at at' : Standing F (Held verb)) (old new : Reading) (before now : Outside) : Type 0 where
  pub stop : new.stop ≡ None
  pub number : new.number ≡ old.number + 1
  pub within : IsWithin new
  pub further : old.passed < new.passed
  pub passed : reads → new.passed + length (ahead new now.source.left) ≡ old.passed + length (ahead old before.source.left)
  pub line : (place : LinePlace (Memory verb)) → StandsAt (Means verb) device at place
      → (takes : TakesLine verb device reads (old.number + 1) at at' place (room old) (ahead old before.source.left) (ahead new now.source.left))
      × (old.passed + length takes.line ≤ new.passed)
      × (writes → now.sink.written ≡ before.sink.written ++ concat takes.played.effect.texts)

-- what is written of a bad line, whole or up to a fault
abbrev pub Refuses : Type 0 → ℕ → List ℕ → List ℕ → Ending → Type 0
Refuses writes number old new BadLine = writes → new ≡ old ++ bad_line number
Refuses writes number old new WriteFault = writes → (n : ℕ) × (new ≡ old ++ take n (bad_line number))
Refuses writes number old new ending = ⊥

-- the next line is bad, and was refused
abbrev pub RefusesNext : (verb : Verb) → Type 0 → Type 0 → Held verb → Reading → Outside → Outside → Ending → Type 0
RefusesNext verb reads writes held old before now ending =
    ((memory : Memory verb) → Means verb held memory → reads → IsBad verb memory (room old) (ahead old before.source.left)) × Refuses writes (old.number + 1) before.sink.written now.sink.written ending
    × TakesFew reads old before now

-- The run ends with what is ahead.
abbrev pub EndsWith : {F : Type 0} (verb : Verb) → Flash F → Type 0 → Type 0 → Standing F (Held verb) → Standing F (Held verb) → Reading → Outside → Outside → Ending → Type 0
EndsWith verb device reads writes at at' old before now Finished = (at' ≡ at) × (at.differs ≡ false) × IsAtEnd reads writes old before now
EndsWith verb device reads writes at at' old before now Differs = (at' ≡ at) × (at.differs ≡ true) × IsAtEnd reads writes old before now
EndsWith verb device reads writes at at' old before now BadLine = (at' ≡ at) × RefusesNext verb reads writes at.held old before now BadLine
EndsWith verb device reads writes at at' old before now Failed =
    Silent writes before now × TakesFew reads old before now
    × ((place : LinePlace (Memory verb)) → StandsAt (Means verb) device at place → BreaksNext verb device reads at at' place (room old) (ahead old before.source.left))
EndsWith verb device reads writes at at' old before now ReadFault =
    (at' ≡ at) × (reads → HoldsNoLine (ahead old before.source.left) now.source.left) × Silent writes before now × TakesFew reads old before now
EndsWith verb device reads writes at at' old before now InputTooLong =
    (at' ≡ at) × (reads → IsShortCut (room old) (ahead old before.source.left)) × Silent writes before now × TakesFew reads old before now
EndsWith verb device reads writes at at' old before now WriteFault =
    ((place : LinePlace (Memory verb)) → StandsAt (Means verb) device at place
    → (after : List ℕ) × (takes : TakesLine verb device reads (old.number + 1) at at' place (room old) (ahead old before.source.left) after)
    × (line : List ℕ) × (takes.played.effect.texts ≡ line ∷ [])
    × (writes → (n : ℕ) × (now.sink.written ≡ before.sink.written ++ take n line))
    × (reads → TakesNoMore (total old before) after now.source.left))
    ⊎ ((at' ≡ at) × RefusesNext verb reads writes at.held old before now WriteFault)
