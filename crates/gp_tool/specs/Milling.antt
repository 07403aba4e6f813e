-- For the code inside. A workload that is being played, between two lines.
use Rattle.std.specs.Prelude.{◌≡◌, ℕ, Bool, false, List, ◌++◌, length}
use Rattle.card_core.specs.Card.{CardRepresents}
use Rattle.flash_core.specs.declared.flash.Flash.{Ghosts as Flash}
use Rattle.policy_machine.specs.State.{State}
use Rattle.script_tool.specs.Host.{Host}
use Rattle.script_tool.specs.Kept.{RepresentsHost}
use Rattle.script_tool.specs.Mill.{workload}
use Rattle.script_tool.specs.declared.host_state.HostState.{HostState}
use Rattle.gp_tool.specs.Counted.{bounded_count}
use Rattle.gp_tool.specs.Device.{HasRun, LeavesOneOf, registries}
use Rattle.gp_tool.specs.Effects.{LineEffect, LinePlace}
use Rattle.gp_tool.specs.Mill.{tally_of, with_texts}
use Rattle.gp_tool.specs.RunsLines.{RunsLines, start}
use Rattle.gp_tool.specs.Script.{PlaysScript}
use Rattle.gp_tool.specs.Serve.{RunsLine}
use Rattle.gp_tool.specs.Standing.{standing}
use Rattle.gp_tool.specs.declared.card_end.CardEnd as the_end
use Rattle.gp_tool.specs.declared.tally.Tally.{Tally}
use Rattle.gp_tool.specs.declared.verb.Verb.TheVariants.{Play}
use Rattle.gp_tool.specs.declared.workload.Workload.{Workload}

-- A line was played from a place, and its text was counted.
pub record MillsLine {F : Type 0} (device : Flash F) (line : List ℕ) (old new : the_end.CardEnd F) (player player' : HostState) (tally tally' : Tally) (place : LinePlace Host) : Type 0 where
  pub differs : Bool
  pub runs : RunsLine RepresentsHost (PlaysScript line) device (standing old player false) (standing new player' differs) place
  pub tally_is : tally' ≡ with_texts runs.effect.texts tally

-- The first lines of the workload were played, and these are left. `from` is the device before the first line.
pub record Milling {F : Type 0} (device : Flash F) (work : Workload) (first : State) (from : F) (end : the_end.CardEnd F) (player : HostState) (tally : Tally) (left : List (List ℕ)) : Type 0 where
  pub given : List (List ℕ)
  pub effect : LineEffect
  pub place : LinePlace Host
  pub all : given ++ left ≡ workload work.seed work.rounds
  pub plays : RunsLines Play 1 given (start Play first) effect place
  pub stands : CardRepresents device end.card place.state
  pub host : RepresentsHost player place.memory
  pub leaves : LeavesOneOf device from end.card.flash (registries first effect.outcomes)
  pub done : end.done ≡ bounded_count (length effect.outcomes)
  pub tally_is : tally ≡ tally_of effect.texts

-- All were played.
pub record Milled {F : Type 0} (device : Flash F) (work : Workload) (first : State) (from : F) (end : the_end.CardEnd F) (tally : Tally) : Type 0 where
  pub effect : LineEffect
  pub last : LinePlace Host
  pub plays : RunsLines Play 1 (workload work.seed work.rounds) (start Play first) effect last
  pub stands : CardRepresents device end.card last.state
  pub run : HasRun device from end.card.flash first end.done effect.outcomes last.state
  pub tally_is : tally ≡ tally_of effect.texts
