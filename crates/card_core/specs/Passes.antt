-- For the code inside. What a command passes before the rules of its own: those on the life cycle state of the card, and on secure
-- messaging.
use Rattle.std.specs.Prelude.{◌≡◌, ℕ, List, Option, None, Some, slice_index_or, take}
use Rattle.apdu_core.specs.Apdu.{Apdu, Short, apdu_of}
use Rattle.apdu_core.specs.Reply.{status_bytes}
use Rattle.policy_machine.specs.Admission.{Admits, GeneralFails, admitted_as, command_rules}
use Rattle.apdu_core.specs.ClassBytes.{channel_of}
use Rattle.policy_machine.specs.Refusal.{IsFirst}
use Rattle.policy_machine.specs.Rules.{status_of}
use Rattle.policy_machine.specs.Sound.{IsSound}
use Rattle.policy_machine.specs.State.{State, Secured}
use Rattle.policy_machine.specs.declared.rule.Rule.TheVariants.{G}
use Rattle.policy_machine.specs.declared.rule.RuleG.{RuleG}
use Rattle.policy_slots.specs.LiveEnds.{live_without_place}
use Rattle.policy_slots.specs.declared.live.Live.{Live}
use Rattle.scp03_card.specs.Session.{Session}
use Rattle.card_core.specs.Kept.{Kept, KeptRepresents, RepresentsSecureChannel, held_on}
use Rattle.card_core.specs.Serves.{Serves}
use Rattle.card_core.specs.declared.admit.Received.{Received}
use Rattle.card_core.specs.declared.channel_session.ChannelSession.{ChannelSession}

-- The command has come to a card that kept this, and the rules on its class, channel and instruction let it pass. Its channel has
-- lost its place in a listing since.
pub record HasCome (page : ℕ → List ℕ) (card : Kept) (state : State) (bytes : List ℕ) (received : Received) (live : Live) (held : ChannelSession) : Type 0 where
  pub shows : KeptRepresents page card state
  pub sound : IsSound state
  pub front : IsFirst (GeneralFails state bytes) command_rules None
  pub short : Short (apdu_of received.command) bytes
  pub channel : received.channel ≡ channel_of received.command.class
  pub selected : slice_index_or card.live.selected received.channel None ≡ Some received.selected
  pub forgotten : live ≡ live_without_place card.live received.channel
  pub holds : held ≡ held_on card.sessions received.channel

-- `So` holds of each state that a card showed to which the command has come.
abbrev pub ForCome : Received → Live → ChannelSession → ((ℕ → List ℕ) → Kept → State → List ℕ → Type 0) → Type 0
ForCome received live held So =
    (page : ℕ → List ℕ) (card : Kept) (state : State) (bytes : List ℕ) → HasCome page card state bytes received live held → So page card state bytes

-- a general rule bars the bytes
abbrev pub Bars : (ℕ → List ℕ) → Kept → State → List ℕ → RuleG → Type 0
Bars page card state bytes rule = (reply : List ℕ) → reply ≡ status_bytes (status_of (G rule)) → Serves page state bytes card reply (Some (G rule))

-- the data field in plain: as it came, or in the front of what the command was opened to
abbrev pub plain_of : Apdu → Option ℕ → List ℕ → List ℕ
plain_of command None plain = command.body
plain_of command (Some count) plain = take count plain

-- what is held stands for the session that a command was opened in
abbrev pub IsOpenedIn : Option ℕ → ChannelSession → Option Session → Type 0
IsOpenedIn None held None = Unit {0}
IsOpenedIn None held (Some session) = ⊥
IsOpenedIn (Some count) held None = ⊥
IsOpenedIn (Some count) held (Some session) = RepresentsSecureChannel held (Secured session)

-- no general rule bars the bytes, and the card shows the state in which the rules of the command's own are judged
pub record Passes (page : ℕ → List ℕ) (card : Kept) (state : State) (bytes : List ℕ) (command : Apdu) (held : ChannelSession) (opened : Option ℕ) (plain : List ℕ) : Type 0 where
  pub session : Option Session
  pub admits : Admits state bytes (admitted_as state command session (plain_of command opened plain))
  pub shows : KeptRepresents page card (admitted_as state command session (plain_of command opened plain)).at
  pub sound : IsSound (admitted_as state command session (plain_of command opened plain)).at
  pub opened_in : IsOpenedIn opened held session
