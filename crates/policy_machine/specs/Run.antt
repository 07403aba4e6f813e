-- A run of the policy machine, over commands and resets.
use Rattle.std.specs.Prelude.{◌≡◌, ℕ, List, [], ◌∷◌}
use Rattle.policy_machine.specs.State.{State, powered_on}
use Rattle.policy_machine.specs.Step.{Outcome, Step}

-- what a card is given
pub data Input : Type 0 where
  Command : List ℕ → Input
  Reset : Input

-- From one state of the card the inputs lead to another, with an outcome for each command.
abbrev pub Run : State → List Input → List Outcome → State → Type 0
Run state [] outcomes last = (outcomes ≡ []) × (last ≡ state)
Run state (Command bytes ∷ inputs) [] last = ⊥
Run state (Command bytes ∷ inputs) (outcome ∷ outcomes) last = Step state bytes outcome × Run outcome.state inputs outcomes last
Run state (Reset ∷ inputs) outcomes last = Run (powered_on state.registry) inputs outcomes last
