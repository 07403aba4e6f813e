-- What a host sends in the session of a channel passes, and is judged as the plain command.
use Rattle.std.proofs.Common.{◌≡◌, ◌≢◌, ℕ, ◌≤◌, length, true, Option, None, Some, refl, sym, ap, subst, ◌∙◌}
use Rattle.std.specs.Prelude.{Contains, MatchOption, not, if◌then◌else◌, ◌==◌}
use Rattle.apdu_core.specs.Apdu.{Apdu}
use Rattle.apdu_core.specs.ClassBytes.{IsBasicChannel, channel_of, on_channel}
use Rattle.apdu_core.proofs.ClassBytes.{is_of_class, names_it}
use Rattle.card_types.specs.declared.card_life.CardLife.TheVariants.{Terminated}
use Rattle.cmac_kdf.specs.Blocks.{IsBytes}
use Rattle.policy_machine.specs.Admission.{Admits, Admitted, admitted_as, class_passed, message_joined}
use Rattle.policy_machine.specs.Classes.{IsKnown, class_of, instructions_of, is_protected, protects}
use Rattle.policy_machine.specs.Sound.{IsSound}
use Rattle.policy_machine.specs.State.{State, Channel, Secured, Volatile, channel_at, channel_with, secure_channel_of, selected_on, session_in, session_on, without_load}
use Rattle.policy_machine.specs.declared.class.Class.{Class}
use Rattle.policy_machine.specs.declared.class.Class.TheVariants.{Interindustry, Plain, Secure}
use Rattle.policy_machine.specs.declared.instruction.TheConstants.{EXTERNAL_AUTHENTICATE, LOAD}
use Rattle.policy_machine.proofs.OpenedJudged.{admits}
use Rattle.policy_machine.proofs.Passing.{admitted_selected, channel_is_low, class_fits, either, passed_session}
use Rattle.policy_machine.proofs.SecureChannelSet.{within}
use Rattle.policy_machine.proofs.SetChannel.{set_same}
use Rattle.scp03_card.specs.Session.{Session}
use Rattle.scp03_host.specs.Wrapped.{having_sent, wrapped_command}
use Rattle.scp03_host.proofs.AgreementLemmas.{accepting_is, opens_sent}
use Rattle.script_tool.specs.Command.{command_bytes}
use Rattle.cap_pack.proofs.Octets.{HasByteHeader, sent_is_short}

-- a class byte of secure messaging names its channel
pub channel_is : (channel : ℕ) → IsBasicChannel channel → channel_of (on_channel 0x84 channel) ≡ channel
channel_is channel = names_it 0x84 channel refl

class_is : (channel : ℕ) → IsBasicChannel channel → class_of (on_channel 0x84 channel) ≡ Some Secure
class_is channel low =
    ap (λ (n : ℕ). if n == 0x00 then Some Interindustry else if n == 0x80 then Some Plain else if n == 0x84 then Some Secure else None)
    (is_of_class 0x84 channel refl low)

-- a plain command of card content management that a host can send
pub record IsSendable (command : Apdu) : Type 0 where
  pub known : Contains (instructions_of Secure) command.ins
  pub other : not (command.ins == EXTERNAL_AUTHENTICATE) ≡ true
  pub head : HasByteHeader command
  pub bytes : IsBytes command.body
  pub few : length command.body ≤ 239

-- the state of a card that has a session on a channel
pub record HasOpen (state : State) (channel : ℕ) (session : Session) : Type 0 where
  pub sound : IsSound state
  pub alive : state.registry.life ≢ Terminated
  pub low : IsBasicChannel channel
  pub on : session_on state.volatile (channel_of (on_channel 0x84 channel)) ≡ Some session

module _ (state : State) (channel : ℕ) (session : Session) (has : HasOpen state channel session) (command : Apdu) (sendable : IsSendable command) where
  abbrev pub sent : Apdu
  sent = wrapped_command session command channel

  abbrev pub taken : Admitted
  taken = admitted_as state sent (Some (having_sent session command)) command.body

  abbrev number : ℕ
  number = channel_of (on_channel 0x84 channel)

  protected : is_protected sent ≡ true
  protected = ap (λ (class : Option Class). protects class command.ins) (class_is channel has.low) ∙ sendable.other

  known : IsKnown sent.class sent.ins
  known = subst (λ (class : Option Class). MatchOption class ⊥ (λ c. Contains (instructions_of c) command.ins)) (sym (class_is channel has.low)) sendable.known

  pub sent_admitted : Admits state (command_bytes sent) taken
  sent_admitted =
      subst (λ (s : Session). Admits state (command_bytes sent) (admitted_as state sent (Some s) command.body)) (accepting_is session command channel has.low sendable.bytes)
      (admits state has.sound has.alive (command_bytes sent) sent session command.body
      (sent_is_short session command channel has.low sendable.head sendable.bytes sendable.few) protected has.on
      (opens_sent session command channel has.low sendable.bytes) known)

  -- the channel's session has the command
  abbrev passed : Volatile
  passed = class_passed state.volatile sent

  abbrev joined : Volatile
  joined = message_joined passed number (Some (having_sent session command))

  joined_session : session_on joined number ≡ Some (having_sent session command)
  joined_session =
      ap (λ (c : Option Channel). session_in (secure_channel_of c))
      (set_same passed number (channel_with (Secured (having_sent session command)) (channel_at passed number))
      (within state.registry passed number (class_fits state.registry state.volatile sent has.sound.fits) (channel_is_low sent.class)))
      ∙ by (channel_at passed number) (passed_session state sent has.sound.fits ∙ has.on)
    where
      by : (c : Option Channel) → session_in (secure_channel_of c) ≡ Some session
          → session_in (secure_channel_of (channel_with (Secured (having_sent session command)) c)) ≡ Some (having_sent session command)
      by None is = cc
      by (Some c) is = refl

  pub taken_session : session_on taken.at.volatile number ≡ Some (having_sent session command)
  taken_session =
      either (λ (v : Volatile). session_on v number ≡ Some (having_sent session command)) (command.ins == LOAD) joined (without_load joined number) joined_session joined_session

  -- the channel has selected what it had
  pub taken_selected : selected_on taken.at.volatile number ≡ selected_on state.volatile number
  taken_selected = admitted_selected state sent has.sound.fits (Some (having_sent session command)) command.body
