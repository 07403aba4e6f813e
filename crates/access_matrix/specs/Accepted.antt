-- What a line of the matrix says of the card's next command.
use Rattle.std.specs.Prelude.{◌≡◌, ◌≢◌, ◌↔◌, ℕ, List, None}
use Rattle.apdu_core.specs.Apdu.{Apdu, Short}
use Rattle.card_types.specs.Registry.{Registry}
use Rattle.card_types.specs.declared.card_life.CardLife.TheVariants.{Terminated}
use Rattle.policy_machine.specs.CommandForm.{FailsFirst}
use Rattle.policy_machine.specs.Sound.{IsSound}
use Rattle.policy_machine.specs.State.{State, Secured, with_secure_channel}
use Rattle.policy_machine.specs.Step.{Outcome, Step}
use Rattle.scp03_card.specs.Opens.{Opens}
use Rattle.scp03_card.specs.Session.{Session}
use Rattle.access_matrix.specs.Commands.{IsCommandOf, form_of}
use Rattle.access_matrix.specs.Deeds.{IsThere}
use Rattle.access_matrix.specs.There.{judged_there, with_domain}
use Rattle.access_matrix.specs.declared.deed.Deed.{Deed}

-- a card that was powered on with this domain selected, where the basic channel has a session besides
abbrev pub state_in_session : Registry → List ℕ → Session → State
state_in_session registry domain session = record {
  registry = registry;
  volatile = with_secure_channel (with_domain registry domain).volatile 0 (Secured session);
}

-- the bytes are a protected command of the basic channel that opens to this one
pub record IsSentAs (session : Session) (command : Apdu) (bytes : List ℕ) : Type 0 where
  pub sent : Apdu
  pub short : Short sent bytes
  pub class : sent.class ≡ 0x84
  pub ins : sent.ins ≡ command.ins
  pub p1 : sent.p1 ≡ command.p1
  pub p2 : sent.p2 ≡ command.p2
  pub opens : Opens session sent command.body

-- In whatever session of the domain the command of a deed is sent, the card accepts it exactly where none of the rules fails by which the
-- deed is judged.
abbrev pub AcceptsAsJudged : Type 0
AcceptsAsJudged =
    (registry : Registry) (domain : List ℕ) (session : Session) → IsSound (state_in_session registry domain session) → registry.life ≢ Terminated
    → (deed : Deed) (command : Apdu) → IsThere registry deed → IsCommandOf registry domain deed command
    → (bytes : List ℕ) (outcome : Outcome) → IsSentAs session command bytes → Step (state_in_session registry domain session) bytes outcome
    → (outcome.rule ≡ None) ↔ FailsFirst (form_of deed) (judged_there registry domain command) None
