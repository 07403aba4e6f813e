-- For the code inside. What comes of a line that is given to a card.
use Rattle.std.specs.Prelude.{◌≡◌, ℕ, List, [], ◌∷◌}
use Rattle.card_core.specs.Card.{CardOver, CardRepresents}
use Rattle.flash_core.specs.declared.flash.Flash.{Ghosts as Flash}
use Rattle.policy_machine.specs.Run.{Command, Reset}
use Rattle.policy_machine.specs.State.{State, powered_on}
use Rattle.policy_machine.specs.Step.{Outcome, Step}
use Rattle.gp_tool.specs.Counted.{CountsOn}
use Rattle.gp_tool.specs.Device.{LeavesOneOf, LeftOneOf}
use Rattle.gp_tool.specs.Form.{IsForCard, SpellsInputs}
use Rattle.gp_tool.specs.declared.give.Given.{Given}
use Rattle.gp_tool.specs.declared.give.Given.TheVariants as given

-- The line is a command, and one outcome comes of it.
pub record Commands {F : Type 0} (line : List ℕ) (device : Flash F) (old new : F) (state : State) (outcome : Outcome) : Type 0 where
  pub bytes : List ℕ
  pub spelled : SpellsInputs line (Command bytes ∷ [])
  pub step : Step state bytes outcome
  pub leaves : LeavesOneOf device old new (state.registry ∷ outcome.state.registry ∷ [])

-- what the card is given, and how it stands then; `kept` is the reply in the workspace, and `done` how many commands were answered
abbrev pub GivesCard : {F : Type 0} → List ℕ → Flash F → CardOver F → CardOver F → ℕ → ℕ → List ℕ → List ℕ → Given → Type 0
GivesCard line device card card' done done' kept kept' given.NoForm =
    (IsForCard line → ⊥) × (card' ≡ card) × (done' ≡ done) × (kept' ≡ kept)
GivesCard line device card card' done done' kept kept' given.Nothing =
    SpellsInputs line [] × (card' ≡ card) × (done' ≡ done) × (kept' ≡ kept)
GivesCard line device card card' done done' kept kept' given.Reset =
    SpellsInputs line (Reset ∷ []) × (card'.flash ≡ card.flash) × (done' ≡ done)
    × ((state : State) → CardRepresents device card state → CardRepresents device card' (powered_on state.registry))
GivesCard line device card card' done done' kept kept' (given.Answered rule) =
    CountsOn done done' 1
    × ((state : State) → CardRepresents device card state
    → (outcome : Outcome) × Commands line device card.flash card'.flash state outcome
    × CardRepresents device card' outcome.state × (kept' ≡ outcome.reply) × (rule ≡ outcome.rule))
GivesCard line device card card' done done' kept kept' given.FlashFailed =
    (done' ≡ done)
    × ((state : State) → CardRepresents device card state
    → (outcome : Outcome) × Commands line device card.flash card'.flash state outcome
    × LeftOneOf device card'.flash (state.registry ∷ outcome.state.registry ∷ []))
