-- For the code inside. A run that goes on, between two lines.
use Rattle.std.specs.Prelude.{◌≡◌, ℕ, ◌+◌, ◌*◌, ◌≤◌, List, ◌++◌, length}
use Rattle.std.specs.List.{AllByRecursion, concat}
use Rattle.flash_core.specs.declared.flash.Flash.{Ghosts as Flash}
use Rattle.io_edge.specs.Lines.{Reading, ahead}
use Rattle.io_edge.specs.declared.line.TheConstants.{INPUT_LIMIT, LINE_LIMIT}
use Rattle.policy_machine.specs.State.{State}
use Rattle.gp_tool.specs.Counted.{bounded_count}
use Rattle.gp_tool.specs.Device.{LeavesOneOf, registries}
use Rattle.gp_tool.specs.Effects.{LineEffect, LinePlace}
use Rattle.line_runs.specs.Outside.{Outside}
use Rattle.line_runs.specs.Taken.{ComeFirst}
use Rattle.gp_tool.specs.RunsLines.{Memory, RunsLines, start}
use Rattle.gp_tool.specs.Serve.{Standing, StandsAt}
use Rattle.gp_tool.specs.Standing.{Held, Means}
use Rattle.gp_tool.specs.declared.verb.Verb.{Verb}

-- no line is too long
abbrev pub AreShort : List (List ℕ) → Type 0
AreShort lines = AllByRecursion (λ line. length line ≤ LINE_LIMIT) lines

-- the lines come first in an input of which nothing was taken before
abbrev pub Reached : List ℕ → List (List ℕ) → List ℕ → Type 0
Reached input given ahead = ComeFirst INPUT_LIMIT input given ahead

-- The lines that were given have their texts written, and the reading and the card stand after them. `from` is the device before
-- the first line. A line makes at most 60 commands for each of its bytes, or one.
pub record Going {F : Type 0} (verb : Verb) (device : Flash F) (reads writes : Type 0) (first : State) (from : F) (at : Standing F (Held verb)) (before now : Outside) (reading : Reading) : Type 0 where
  pub given : List (List ℕ)
  pub effect : LineEffect
  pub place : LinePlace (Memory verb)
  pub number : reading.number ≡ length given
  pub passed : reads → reading.passed + length (ahead reading now.source.left) ≡ length before.source.left
  pub fits : AreShort given
  pub plays : RunsLines verb 1 given (start verb first) effect place
  pub reached : reads → Reached before.source.left given (ahead reading now.source.left)
  pub stands : StandsAt (Means verb) device at place
  pub leaves : LeavesOneOf device from at.card.flash (registries first effect.outcomes)
  pub done : at.done ≡ bounded_count (length effect.outcomes)
  pub few : length effect.outcomes ≤ 61 * reading.passed
  pub differs : at.differs ≡ effect.differs
  pub written : writes → now.sink.written ≡ before.sink.written ++ concat effect.texts
