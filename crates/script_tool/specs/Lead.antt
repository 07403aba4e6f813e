-- What a command does to a card at the other end of a link.
use Rattle.std.specs.Prelude.{◌≡◌, ℕ, List}
use Rattle.policy_machine.specs.State.{State}
use Rattle.policy_machine.specs.Step.{Outcome, Step}

-- the bytes lead a card from one state to another, with this reply
abbrev pub LeadsTo : State → List ℕ → List ℕ → State → Type 0
LeadsTo state command reply last = (outcome : Outcome) × Step state command outcome × (reply ≡ outcome.reply) × (last ≡ outcome.state)
