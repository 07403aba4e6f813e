-- For the code inside. What a card at the end of a link was given, and what has come of it. `device` is what contracts see of its
-- device.
use Rattle.std.specs.Prelude.{◌≡◌, ℕ, Bool, true, false, List, [], ◌∷◌, ◌++◌, length}
use Rattle.card_core.specs.Card.{CardOver, CardRepresents}
use Rattle.flash_core.specs.declared.flash.Flash.{Ghosts as Flash}
use Rattle.policy_machine.specs.Run.{Command, Input, Run}
use Rattle.policy_machine.specs.State.{State}
use Rattle.policy_machine.specs.Step.{Outcome, Step}
use Rattle.gp_tool.specs.Counted.{CountsOn}
use Rattle.gp_tool.specs.Device.{LeavesOneOf, LeftOneOf, registries}

-- a card, and how many commands it has answered
pub record Counting (F : Type 0) : Type 0 where
  pub card : CardOver F
  pub done : ℕ

-- The inputs have come from a first state, and the card has answered all.
pub record HaveCome {F : Type 0} (device : Flash F) (old new : Counting F) (first : State) (inputs : List Input) : Type 0 where
  pub outcomes : List Outcome
  pub last : State
  pub run : Run first inputs outcomes last
  pub stands : CardRepresents device new.card last
  pub leaves : LeavesOneOf device old.card.flash new.card.flash (registries first outcomes)
  pub done : CountsOn old.done new.done (length outcomes)

-- The device failed in the last of them, a command.
pub record HasStopped {F : Type 0} (device : Flash F) (old new : Counting F) (first : State) (inputs : List Input) : Type 0 where
  pub before : List Input
  pub bytes : List ℕ
  pub inputs_are : inputs ≡ before ++ Command bytes ∷ []
  pub outcomes : List Outcome
  pub mid : State
  pub next : Outcome
  pub run : Run first before outcomes mid
  pub step : Step mid bytes next
  pub left : LeftOneOf device new.card.flash (mid.registry ∷ next.state.registry ∷ [])
  pub leaves : LeavesOneOf device old.card.flash new.card.flash (registries first (outcomes ++ next ∷ []))
  pub done : CountsOn old.done new.done (length outcomes)

-- one or the other, by whether the card goes on
abbrev pub Comes : {F : Type 0} → Flash F → Counting F → Counting F → State → List Input → Bool → Type 0
Comes device old new first inputs true = HaveCome device old new first inputs
Comes device old new first inputs false = HasStopped device old new first inputs
