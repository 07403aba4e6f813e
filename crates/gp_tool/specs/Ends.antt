-- How a run ends, and what has been read and written then.
use Rattle.std.specs.Prelude.{◌≡◌, ◌≢◌, ◌⊎◌, ℕ, ◌+◌, ◌≤◌, true, false, List, [], ◌∷◌, ◌++◌, length}
use Rattle.std.specs.List.{AllByRecursion}
use Rattle.faults.specs.Faults.{Rose, next_count}
use Rattle.io_edge.specs.Lines.{IsNextLine}
use Rattle.io_edge.specs.Streams.{SinkState}
use Rattle.io_edge.specs.declared.line.TheConstants.{INPUT_LIMIT, LINE_LIMIT}
use Rattle.line_runs.specs.Outside.{CutsText, Outside, Wrote, bad_line}
use Rattle.line_runs.specs.Taken.{AreAllTaken, ComeFirst, HoldsNoLine, IsBadLine, IsShortCut, TakesNoMore, room_ahead}
use Rattle.policy_machine.specs.State.{State}
use Rattle.policy_machine.specs.Step.{Outcome}
use Rattle.gp_tool.specs.Around.{Around}
use Rattle.gp_tool.specs.Effects.{LineEffect, LinePlace}
use Rattle.gp_tool.specs.Flush.{IsHandedOn}
use Rattle.gp_tool.specs.RunsLines.{FailsLine, HasForm, Memory, RunsLines, start}
use Rattle.line_runs.specs.declared.exit.Ending.{Ending}
use Rattle.line_runs.specs.declared.exit.Ending.TheVariants.{Finished, Differs, BadLine, Failed, ReadFault, WriteFault, InputTooLong}
use Rattle.gp_tool.specs.declared.verb.Verb.{Verb}

-- the next line is malformed, or too long
abbrev pub IsBad : (verb : Verb) → Memory verb → ℕ → List ℕ → Type 0
IsBad verb memory = IsBadLine (λ text. HasForm verb text memory)

-- In what follows `reads` and `writes` are facts where the source and the sink tell their bytes, and `⊥` where they don't.
-- `Rests` is what holds of the device after some commands and at the state after them, and `Fails` what holds where it
-- failed in the next one.

-- The course of a run up to its end: the lines that were given to the card, each of a form and not too long, what came of
-- them, and what stands ahead after them.
pub record Course (verb : Verb) (reads : Type 0) (first : State) (input left : List ℕ) : Type 0 where
  pub given : List (List ℕ)
  pub effect : LineEffect
  pub last : LinePlace (Memory verb)
  pub ahead : List ℕ
  pub fits : AllByRecursion (λ line. length line ≤ LINE_LIMIT) given
  pub plays : RunsLines verb 1 given (start verb first) effect last
  pub reached : reads → ComeFirst INPUT_LIMIT input given ahead
  pub taken : reads → TakesNoMore (length input) ahead left

-- The last line given writes the last text, and those before it the others.
pub record WritesLast (verb : Verb) (first : State) (given texts : List (List ℕ)) : Type 0 where
  pub lines : List (List ℕ)
  pub line : List ℕ
  pub given_are : given ≡ lines ++ line ∷ []
  pub before : LineEffect
  pub place : LinePlace (Memory verb)
  pub plays : RunsLines verb 1 lines (start verb first) before place
  pub text : List ℕ
  pub texts_are : texts ≡ before.texts ++ text ∷ []

-- The device failed in a command of the next line, after the outcomes of those before it in the line.
abbrev pub FailsNext : (verb : Verb) → Type 0 → (List Outcome → State → Outcome → Type 0) → LinePlace (Memory verb) → ℕ → List ℕ → Type 0
FailsNext verb reads Fails at room ahead =
    (line : List ℕ) × (reads → (after : List ℕ) × IsNextLine room ahead line after) × (length line ≤ LINE_LIMIT)
    × (begun : List Outcome) × (mid : State) × (next : Outcome) × FailsLine verb line at begun mid next × Fails begun mid next

-- the texts of the lines given, and of a bad line after them
abbrev pub with_bad_line : List (List ℕ) → LineEffect → List (List ℕ)
with_bad_line given effect = effect.texts ++ bad_line (length given + 1) ∷ []

-- What holds after the course where nothing has failed: why no further line was given, and what was written.
abbrev pub EndsFaultless : (verb : Verb) (reads writes : Type 0) (first : State) (old new : Outside) → Course verb reads first old.source.left new.source.left → Ending → Type 0
EndsFaultless verb reads writes first old new course Finished =
    (course.effect.differs ≡ false) × (reads → AreAllTaken old.source.left course.given course.ahead) × Wrote writes course.effect.texts old new
EndsFaultless verb reads writes first old new course Differs =
    (course.effect.differs ≡ true) × (reads → AreAllTaken old.source.left course.given course.ahead) × Wrote writes course.effect.texts old new
EndsFaultless verb reads writes first old new course BadLine =
    (reads → IsBad verb course.last.memory (room_ahead old.source.left course.ahead) course.ahead) × Wrote writes (with_bad_line course.given course.effect) old new
EndsFaultless verb reads writes first old new course InputTooLong =
    (reads → IsShortCut (room_ahead old.source.left course.ahead) course.ahead) × Wrote writes course.effect.texts old new
EndsFaultless verb reads writes first old new course ending = ⊥

-- What holds after the course at each ending. At a refused write or flush the text of the last line given was
-- refused, or that of a bad line after it, or the run had ended without a fault and its flush was refused.
abbrev pub EndsAt : (verb : Verb) (reads writes : Type 0) → (List Outcome → State → Outcome → Type 0) → (first : State) (old new : Outside) → Course verb reads first old.source.left new.source.left → Ending → Type 0
EndsAt verb reads writes Fails first old new course Failed =
    FailsNext verb reads (λ begun. Fails (course.effect.outcomes ++ begun)) course.last (room_ahead old.source.left course.ahead) course.ahead × Wrote writes course.effect.texts old new
EndsAt verb reads writes Fails first old new course ReadFault = (reads → HoldsNoLine course.ahead new.source.left) × Wrote writes course.effect.texts old new
EndsAt verb reads writes Fails first old new course WriteFault =
    ((last : WritesLast verb first course.given course.effect.texts) × CutsText writes last.before.texts last.text old new)
    ⊎ ((reads → IsBad verb course.last.memory (room_ahead old.source.left course.ahead) course.ahead) × CutsText writes course.effect.texts (bad_line (length course.given + 1)) old new)
    ⊎ ((other : Ending) × EndsFaultless verb reads writes first old new course other × (new.sink.flushes ≡ next_count old.sink.flushes))
EndsAt verb reads writes Fails first old new course ending = EndsFaultless verb reads writes first old new course ending

-- how a run from a first state ends
pub record Ends (verb : Verb) (reads writes : Type 0) (Rests : List Outcome → State → Type 0) (Fails : List Outcome → State → Outcome → Type 0) (first : State) (ending : Ending) (old new : Outside) : Type 0 where
  pub course : Course verb reads first old.source.left new.source.left
  pub ends : EndsAt verb reads writes Fails first old new course ending
  pub rests : ending ≢ Failed → Rests course.effect.outcomes course.last.state

-- What was done with the text at each ending. At a refused write `Ends` says it.
abbrev pub Flushes : Type 0 → Ending → SinkState → SinkState → Type 0
Flushes writes Failed old new = new.flushes ≡ next_count old.flushes
Flushes writes ReadFault old new = new.flushes ≡ next_count old.flushes
Flushes writes WriteFault old new = Unit {0}
Flushes writes ending old new = IsHandedOn writes old new

-- Whose count has risen at an ending, or that those of source and sink are as they were. A flush that is refused after a failed device raises the sink's too.
abbrev pub EndCause : Ending → Around ℕ ℕ ℕ → Around ℕ ℕ ℕ → Type 0
EndCause Failed old new = (new.source ≡ old.source) × ((new.sink ≡ old.sink) ⊎ Rose old.sink new.sink) × Rose old.flash new.flash
EndCause ReadFault old new = Rose old.source new.source
EndCause WriteFault old new = (new.source ≡ old.source) × Rose old.sink new.sink
EndCause ending old new = (new.source ≡ old.source) × (new.sink ≡ old.sink)
