-- For the code inside. What comes of a line that a host plays over a card.
use Rattle.std.specs.Prelude.{◌≡◌, ℕ, List, [], ◌∷◌, ◌++◌, length, Result, Ok, Err}
use Rattle.card_core.specs.Card.{CardRepresents}
use Rattle.flash_core.specs.declared.flash.Flash.{Ghosts as Flash}
use Rattle.policy_machine.specs.State.{State}
use Rattle.policy_machine.specs.Step.{Outcome, Step}
use Rattle.script_tool.specs.Host.{Host}
use Rattle.script_tool.specs.Kept.{RepresentsHost}
use Rattle.script_tool.specs.Printed.{kind_played, Printed, printed_text, status_printed}
use Rattle.script_tool.specs.Play.{playing, remembering}
use Rattle.script_tool.specs.Quiet.{is_quiet}
use Rattle.script_tool.specs.Talk.{Ends, Event, Goes, Sends, Talk}
use Rattle.script_tool.specs.declared.host_state.HostState.{HostState}
use Rattle.script_lines.specs.declared.line.ScriptLine.{ScriptLine}
use Rattle.script_tool.specs.declared.played.Played as the_played
use Rattle.script_tool.specs.declared.played.StepStop.{StepStop}
use Rattle.script_tool.specs.declared.played.StepStop.TheVariants.{Form, LinkFailed}
use Rattle.gp_tool.specs.CardEnd.{Counting}
use Rattle.gp_tool.specs.Counted.{CountsOn}
use Rattle.gp_tool.specs.Device.{LeavesOneOf, LeftOneOf, registries}
use Rattle.gp_tool.specs.Script.{AnswersEvents}
use Rattle.gp_tool.specs.declared.card_end.CardEnd as the_end

-- what is counted at the end of a link
abbrev pub counting : {F : Type 0} → the_end.CardEnd F → Counting F
counting end = record { card = end.card; done = end.done }

-- The talk went on to what is left, and the card has answered each command.
pub record PlaysCard {F : Type 0} (device : Flash F) (old new : Counting F) (state : State) (talk left : Talk) : Type 0 where
  pub events : List Event
  pub outcomes : List Outcome
  pub last : State
  pub goes : Goes talk events left
  pub answers : AnswersEvents state events outcomes last
  pub stands : CardRepresents device new.card last
  pub leaves : LeavesOneOf device old.card.flash new.card.flash (registries state outcomes)
  pub done : CountsOn old.done new.done (length outcomes)

-- The device failed in a command of the talk.
pub record StopsCard {F : Type 0} (device : Flash F) (old new : Counting F) (state : State) (talk : Talk) : Type 0 where
  pub events : List Event
  pub command : List ℕ
  pub rest : List ℕ → Talk
  pub outcomes : List Outcome
  pub mid : State
  pub next : Outcome
  pub goes : Goes talk events (Sends command rest)
  pub answers : AnswersEvents state events outcomes mid
  pub step : Step mid command next
  pub left : LeftOneOf device new.card.flash (mid.registry ∷ next.state.registry ∷ [])
  pub leaves : LeavesOneOf device old.card.flash new.card.flash (registries state (outcomes ++ next ∷ []))
  pub done : CountsOn old.done new.done (length outcomes)

-- The line was played to its end, and its text is there.
pub record StepsOver {F : Type 0} (device : Flash F) (old new : Counting F) (host : Host) (state : State) (said : ScriptLine) (kept : HostState) (text : List ℕ) (played : the_played.Played) : Type 0 where
  pub printed : Printed
  pub after : Host
  pub plays : PlaysCard device old new state (playing host said) (Ends printed after)
  pub stands : RepresentsHost kept (remembering (status_printed printed) after)
  pub text_is : text ≡ printed_text (is_quiet said) printed
  pub kind : played ≡ kind_played printed

-- one or the other, as it is answered
abbrev pub StepsCard : {F : Type 0} → Flash F → Counting F → Counting F → Host → State → ScriptLine → HostState → List ℕ → Result the_played.Played StepStop → Type 0
StepsCard device old new host state said kept text (Ok played) = StepsOver device old new host state said kept text played
StepsCard device old new host state said kept text (Err LinkFailed) = StopsCard device old new state (playing host said)
StepsCard device old new host state said kept text (Err (Form n)) = ⊥
