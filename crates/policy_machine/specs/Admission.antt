-- What every command passes before the rules of its own are judged: the bytes become a command (G1), then class, channel,
-- instruction and card are checked (G2 to G5), and then secure messaging (G6 to G8). A stage says what a refusal at it
-- leaves, and what passing it changes.
use Rattle.std.specs.Prelude.{◌≡◌, ◌≢◌, ◌⊎◌, ℕ, List, [], ◌∷◌, Bool, true, false, Option, None, Some, MatchOption, if◌then◌else◌, ◌==◌}
use Rattle.apdu_core.specs.Apdu.{Apdu, Short}
use Rattle.card_types.specs.Registry.{entry_named, is_domain}
use Rattle.card_types.specs.declared.card_life.CardLife.TheVariants.{Terminated}
use Rattle.apdu_core.specs.ClassBytes.{channel_of}
use Rattle.policy_machine.specs.Classes.{class_of, is_protected, IsKnown, IsPlainGetData, IsPlainManagement}
use Rattle.policy_machine.specs.Refusal.{IsFirst}
use Rattle.policy_machine.specs.State.{State, Channel, Secured, SecureChannel, Volatile, channel_at, selected_on, session_on, with_channel, with_secure_channel, without_load, without_offer, without_session}
use Rattle.policy_machine.specs.declared.instruction.TheConstants.{SELECT, MANAGE_CHANNEL, EXTERNAL_AUTHENTICATE, LOAD}
use Rattle.policy_machine.specs.declared.rule.RuleG.{RuleG}
use Rattle.policy_machine.specs.declared.rule.RuleG.TheVariants.{G1, G2, G3, G4, G5, G6, G7, G8}
use Rattle.scp03_card.specs.Opens.{Gives, IsAuthentic, Opens, accepting, field_of}
use Rattle.scp03_card.specs.Session.{Session}

-- the bytes are a command of which this holds
abbrev pub Of : List ℕ → (Apdu → Type 0) → Type 0
Of bytes holds = (command : Apdu) × Short command bytes × holds command

-- the bytes are no short command
abbrev pub IsNoCommand : List ℕ → Type 0
IsNoCommand bytes = (command : Apdu) → Short command bytes → ⊥

-- an application is selected on the command's channel
abbrev pub IsToApplication : State → Apdu → Type 0
IsToApplication state command =
    MatchOption (entry_named state.registry (selected_on state.volatile (channel_of command.class))) ⊥ (λ entry. is_domain entry ≡ false)

-- the session on the command's channel
abbrev pub session_for : State → Apdu → Option Session
session_for state command = session_on state.volatile (channel_of command.class)

-- the command is protected, and this holds of the session of its channel
abbrev pub InSession : State → Apdu → (Session → Type 0) → Type 0
InSession state command holds = (is_protected command ≡ true) × MatchOption (session_for state command) ⊥ holds

-- where a general rule fails
abbrev pub GeneralFails : State → List ℕ → RuleG → Type 0
-- the bytes are no short command
GeneralFails state bytes G1 = IsNoCommand bytes
-- the class byte is none of 00 to 03 and 80 to 87
GeneralFails state bytes G2 = Of bytes (λ command. class_of command.class ≡ None)
-- the channel is closed
GeneralFails state bytes G3 = Of bytes (λ command. channel_at state.volatile (channel_of command.class) ≡ None)
-- the class has no such instruction, or an application is selected, which takes SELECT and MANAGE CHANNEL alone
GeneralFails state bytes G4 = Of bytes (λ command.
    (IsKnown command.class command.ins → ⊥) ⊎ (IsToApplication state command × (command.ins ≢ SELECT) × (command.ins ≢ MANAGE_CHANNEL)))
-- a terminated card answers GET DATA alone
GeneralFails state bytes G5 = Of bytes (λ command. (state.registry.life ≡ Terminated) × (IsPlainGetData command → ⊥))
-- a command of card content management has no secure messaging, or secure messaging has no session
GeneralFails state bytes G6 = Of bytes (λ command. IsPlainManagement command ⊎ ((is_protected command ≡ true) × (session_for state command ≡ None)))
-- the C-MAC is missing or wrong
GeneralFails state bytes G7 = Of bytes (λ command. InSession state command (λ session. IsAuthentic session command → ⊥))
-- the data field can't be deciphered
GeneralFails state bytes G8 = Of bytes (λ command. InSession state command (λ session.
    (plain : List ℕ) → Gives (accepting session command) (field_of command) plain → ⊥))

-- in the order in which they are judged: those of the bytes, the class, the channel and the instruction, and then all
abbrev pub command_rules : List RuleG
command_rules = G1 ∷ G2 ∷ G3 ∷ G4 ∷ []

abbrev pub general_rules : List RuleG
general_rules = G1 ∷ G2 ∷ G3 ∷ G4 ∷ G5 ∷ G6 ∷ G7 ∷ G8 ∷ []

abbrev pub offer_passed : Bool → SecureChannel → SecureChannel
offer_passed true secure_channel = secure_channel
offer_passed false secure_channel = without_offer secure_channel

abbrev pub channel_passed : Bool → Option Channel → Option Channel
channel_passed keeps None = None
channel_passed keeps (Some channel) =
    Some (record { selected = channel.selected; secure_channel = offer_passed keeps channel.secure_channel; place = None })

-- the channel's place in a listing is cleared, and its offer is kept or dropped
abbrev pub without_place : Volatile → ℕ → Bool → Volatile
without_place volatile number keeps = with_channel volatile number (channel_passed keeps (channel_at volatile number))

-- After the checks of class, channel and instruction the offer is dropped, but for EXTERNAL AUTHENTICATE, which answers it.
abbrev pub class_passed : Volatile → Apdu → Volatile
class_passed volatile command = without_place volatile (channel_of command.class) (command.ins == EXTERNAL_AUTHENTICATE)

-- the session of a protected command has its message then
abbrev pub message_joined : Volatile → ℕ → Option Session → Volatile
message_joined volatile number None = volatile
message_joined volatile number (Some session) = with_secure_channel volatile number (Secured session)

-- After the session's check the channel's load session ends, unless the command goes on with it.
abbrev pub session_passed : Volatile → Apdu → Volatile
session_passed volatile command = if command.ins == LOAD then volatile else without_load volatile (channel_of command.class)

-- the channel's session has ended
abbrev pub SessionEnds : State → List ℕ → Volatile → Type 0
SessionEnds state bytes left = Of bytes (λ command. left ≡ without_session (class_passed state.volatile command) (channel_of command.class))

-- what a refusal by a general rule leaves: nothing changes up to G4, at G5 any offer is dropped, and from G6 on a session ends,
-- unless there is none
abbrev pub GeneralRefusalLeaves : State → List ℕ → RuleG → Volatile → Type 0
GeneralRefusalLeaves state bytes G5 left = Of bytes (λ command. left ≡ without_place state.volatile (channel_of command.class) false)
GeneralRefusalLeaves state bytes G6 left = Of bytes (λ command.
    (IsPlainManagement command × (left ≡ without_session (class_passed state.volatile command) (channel_of command.class)))
    ⊎ ((IsPlainManagement command → ⊥) × (left ≡ class_passed state.volatile command)))
GeneralRefusalLeaves state bytes G7 left = SessionEnds state bytes left
GeneralRefusalLeaves state bytes G8 left = SessionEnds state bytes left
GeneralRefusalLeaves state bytes rule left = left ≡ state.volatile

-- a command that has passed: the card before it and the card as its own rules judge it, the channel, the command in plain, and
-- the session that protects its reply, with its message, where it is protected
pub record Admitted : Type 0 where
  pub before : State
  pub at : State
  pub channel : ℕ
  pub command : Apdu
  pub session : Option Session

-- A command is taken as it is, or where it is protected, as what it opens to in the session of its channel.
abbrev pub IsTakenAs : State → Apdu → Option Session → List ℕ → Type 0
IsTakenAs state command None plain = (is_protected command ≡ false) × (plain ≡ command.body)
IsTakenAs state command (Some accepted) plain =
    InSession state command (λ session. Opens session command plain × (accepted ≡ accepting session command))

abbrev pub in_plain : Apdu → List ℕ → Apdu
in_plain command plain = record { class = command.class; ins = command.ins; p1 = command.p1; p2 = command.p2; body = plain; le = command.le }

abbrev pub admitted_as : State → Apdu → Option Session → List ℕ → Admitted
admitted_as state command session plain =
    let number = channel_of command.class in
    record {
      before = state;
      at = record { registry = state.registry; volatile = session_passed (message_joined (class_passed state.volatile command) number session) command };
      channel = number;
      command = in_plain command plain;
      session = session;
    }

-- the bytes pass as this command
abbrev pub Admits : State → List ℕ → Admitted → Type 0
Admits state bytes admitted =
    IsFirst (GeneralFails state bytes) general_rules None
    × Of bytes (λ command. (session : Option Session) × (plain : List ℕ) × IsTakenAs state command session plain × (admitted ≡ admitted_as state command session plain))
