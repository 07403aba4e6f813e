-- The volatile state of a card as an admitted command finds it.
use Rattle.std.proofs.Common.{◌≡◌, ◌≢◌, ℕ, ◌<◌, List, Bool, true, false, Option, None, Some, refl, sym, ap, subst, ◌∙◌, inl, inr, length, arith}
use Rattle.std.specs.Prelude.{IsSome, MatchOption, if◌then◌else◌, ◌==◌}
use Rattle.std.proofs.lemmas.Bool.{cases_Bool, true≢false}
use Rattle.policy_machine.specs.Prelude.{Apdu, Channel, Entry, Fits, FitsSecureChannel, GeneralFails, IsDomainNamed, IsFirst, IsSecured, IsTakenAs, IsWellChannel, LoadSession, Nothing, Opens, Registry, SecureChannel, Secured, Session, Short, State, Volatile, accepting, admitted_as, channel_at, channel_of, channel_passed, channel_with, class_passed, entry_named, general_rules, is_domain, is_protected, load_without_channel, message_joined, offer_passed, secure_channel_of, selected_of, selected_on, session_for, session_in, session_on, with_channel, without_load, without_place}
use Rattle.policy_machine.specs.declared.channels.TheConstants.{CHANNELS}
use Rattle.policy_machine.specs.State.{Offered}
use Rattle.policy_machine.specs.declared.instruction.TheConstants.{SELECT, MANAGE_CHANNEL, EXTERNAL_AUTHENTICATE, LOAD}
use Rattle.policy_machine.specs.declared.rule.RuleG.TheVariants.{G3, G4}
use Rattle.policy_machine.proofs.FirstUnique.{none_fails}
use Rattle.policy_machine.proofs.SetChannel.{HasSession, IsInSession, becomes_fits, set_same, without_load_fits}
use Rattle.policy_machine.proofs.SecureChannelSet.{secured_dropped, secured_fits, session_stands, well_dropped, within}

-- after the check of the class
secured_passed : (keeps : Bool) (secure_channel : SecureChannel) → IsSecured secure_channel → IsSecured (offer_passed keeps secure_channel)
secured_passed true secure_channel secured = secured
secured_passed false secure_channel secured = secured_dropped secure_channel secured

secure_channel_passed : (registry : Registry) (aid : List ℕ) (keeps : Bool) (secure_channel : SecureChannel) → FitsSecureChannel registry aid secure_channel
    → FitsSecureChannel registry aid (offer_passed keeps secure_channel)
secure_channel_passed registry aid true secure_channel well = well
secure_channel_passed registry aid false secure_channel well = well_dropped registry aid secure_channel well

pub placeless_fits : (registry : Registry) (volatile : Volatile) (number : ℕ) (keeps : Bool) → Fits registry volatile → number < CHANNELS
    → Fits registry (without_place volatile number keeps)
placeless_fits registry volatile number keeps fits low =
    becomes_fits registry volatile number (channel_passed keeps)
    (λ channel. record { selected = channel.selected; secure_channel = offer_passed keeps channel.secure_channel; place = None }) refl (λ channel. refl)
    (λ channel well. record {
      selected = well.selected;
      secure_channel = secure_channel_passed registry channel.selected keeps channel.secure_channel well.secure_channel;
    })
    (λ channel secured. secured_passed keeps channel.secure_channel secured) fits (within registry volatile number fits low)

pub channel_is_low : (class : ℕ) → channel_of class < CHANNELS
channel_is_low class = omega arith

pub class_fits : (registry : Registry) (volatile : Volatile) (command : Apdu) → Fits registry volatile → Fits registry (class_passed volatile command)
class_fits registry volatile command fits =
    placeless_fits registry volatile (channel_of command.class) (command.ins == EXTERNAL_AUTHENTICATE) fits (channel_is_low command.class)

-- what a channel has still when it is set
stays : {A : Type 0} (of : Option Channel → A) (volatile : Volatile) (number : ℕ) (channel : Option Channel) → number < length volatile.channels
    → of channel ≡ of (channel_at volatile number) → of (channel_at (with_channel volatile number channel) number) ≡ of (channel_at volatile number)
stays of volatile number channel low same = ap of (set_same volatile number channel low) ∙ same

same_session : (keeps : Bool) (channel : Option Channel) → session_in (secure_channel_of (channel_passed keeps channel)) ≡ session_in (secure_channel_of channel)
same_session keeps None = refl
same_session keeps (Some channel) = by keeps channel.secure_channel
  where
    by : (keeps : Bool) (secure_channel : SecureChannel) → session_in (offer_passed keeps secure_channel) ≡ session_in secure_channel
    by true secure_channel = refl
    by false Nothing = refl
    by false (Offered offer) = refl
    by false (Secured session) = refl

passed_selected : (keeps : Bool) (channel : Option Channel) → selected_of (channel_passed keeps channel) ≡ selected_of channel
passed_selected keeps None = refl
passed_selected keeps (Some channel) = refl

so_selected : (secure_channel : SecureChannel) (channel : Option Channel) → selected_of (channel_with secure_channel channel) ≡ selected_of channel
so_selected secure_channel None = refl
so_selected secure_channel (Some channel) = refl

pub either : (holds : Volatile → Type 0) (test : Bool) (a b : Volatile) → holds a → holds b → holds (if test then a else b)
either holds true a b one other = one
either holds false a b one other = other

-- the load session of another channel is left at that
others_left : (number : ℕ) (load : Option LoadSession) → load_without_channel number (load_without_channel number load) ≡ load_without_channel number load
others_left number None = refl
others_left number (Some load) = by (load.channel == number) refl
  where
    by : (test : Bool) → (load.channel == number) ≡ test → load_without_channel number (if test then None else Some load) ≡ (if test then None else Some load)
    by true is = refl
    by false is = rw is refl

-- an entry that is selected, and is no application
domain_from : (found : Option Entry) → IsSome found → (MatchOption found ⊥ (λ entry. is_domain entry ≡ false) → ⊥) → MatchOption found ⊥ (λ entry. is_domain entry ≡ true)
domain_from None some other = cc
domain_from (Some entry) some other = elim (cases_Bool (is_domain entry)) [
  | inl domain ↦ domain
  | inr application ↦ absurd (other application)
]

selected_named : (registry : Registry) (channel : Option Channel) → (channel ≡ None → ⊥) → MatchOption channel (Unit {0}) (IsWellChannel registry)
    → IsSome (entry_named registry (selected_of channel))
selected_named registry None opened well = absurd (opened refl)
selected_named registry (Some channel) opened well = well.selected

-- commands other than SELECT and MANAGE CHANNEL are for a domain
pub domain_selected : (state : State) (bytes : List ℕ) (command : Apdu) → Short command bytes → IsFirst (GeneralFails state bytes) general_rules None
    → Fits state.registry state.volatile → command.ins ≢ SELECT → command.ins ≢ MANAGE_CHANNEL
    → IsDomainNamed state.registry (selected_on state.volatile (channel_of command.class))
domain_selected state bytes command short first fits selects manages =
    let number = channel_of command.class in
    let opened = selected_named state.registry (channel_at state.volatile number)
    (λ closed. none_fails (GeneralFails state bytes) general_rules G3 (2, omega arith, refl) first (command, short, closed)) (fits.each number) in
    domain_from (entry_named state.registry (selected_on state.volatile number)) opened
    (λ application. none_fails (GeneralFails state bytes) general_rules G4 (3, omega arith, refl) first (command, short, inr (application, selects, manages)))

module _ (state : State) (command : Apdu) (fits : Fits state.registry state.volatile) where
  abbrev number : ℕ
  number = channel_of command.class

  abbrev passed : Volatile
  passed = class_passed state.volatile command

  passed_fits : Fits state.registry passed
  passed_fits = class_fits state.registry state.volatile command fits

  abbrev after : Option Channel
  after = channel_passed (command.ins == EXTERNAL_AUTHENTICATE) (channel_at state.volatile number)

  low : number < length state.volatile.channels
  low = within state.registry state.volatile number fits (channel_is_low command.class)

  low_after : number < length passed.channels
  low_after = within state.registry passed number passed_fits (channel_is_low command.class)

  -- the session on the channel is the same after the check of the class
  pub passed_session : session_on passed number ≡ session_for state command
  passed_session =
      stays (λ c. session_in (secure_channel_of c)) state.volatile number after low (same_session (command.ins == EXTERNAL_AUTHENTICATE) (channel_at state.volatile number))

  -- the session of a protected command has its message
  joined_fits : (session : Option Session) (plain : List ℕ) → IsTakenAs state command session plain → Fits state.registry (message_joined passed number session)
  joined_fits None plain taken = passed_fits
  joined_fits (Some accepted) plain taken = by (session_for state command) refl taken.1
    where
      by : (found : Option Session) → session_for state command ≡ found
          → MatchOption found ⊥ (λ session. Opens session command plain × (accepted ≡ accepting session command))
          → Fits state.registry (message_joined passed number (Some accepted))
      by None is opens = absurd opens
      by (Some session) is opens =
          let stood : session_on passed number ≡ Some session = passed_session ∙ is in
          let stands = session_stands state.registry passed number passed_fits (channel_is_low command.class) session stood in
          secured_fits state.registry passed number passed_fits (channel_is_low command.class) accepted
          (subst (λ (s : Session). FitsSecureChannel state.registry (selected_on passed number) (Secured s)) (sym opens.1) stands)

  joined_selected : (session : Option Session) → selected_on (message_joined passed number session) number ≡ selected_on passed number
  joined_selected None = refl
  joined_selected (Some session) =
      stays selected_of passed number (channel_with (Secured session) (channel_at passed number)) low_after (so_selected (Secured session) (channel_at passed number))

  joined_session : (session : Option Session) (plain : List ℕ) → IsTakenAs state command session plain → is_protected command ≡ true
      → HasSession (message_joined passed number session) number
  joined_session None plain taken protected = (let clash = sym protected ∙ taken.0 in cc)
  joined_session (Some accepted) plain taken protected =
      subst IsInSession
      (sym (set_same passed number (channel_with (Secured accepted) (channel_at passed number)) low_after))
      (by (session_for state command) refl taken.1)
    where
      joined_to : (channel : Option Channel) → IsSome (session_in (secure_channel_of channel))
          → IsInSession (channel_with (Secured accepted) channel)
      joined_to None some = cc
      joined_to (Some channel) some = tt

      by : (found : Option Session) → session_for state command ≡ found
          → MatchOption found ⊥ (λ session. Opens session command plain × (accepted ≡ accepting session command))
          → IsInSession (channel_with (Secured accepted) (channel_at passed number))
      by None is opens = absurd opens
      by (Some session) is opens = joined_to (channel_at passed number) (subst IsSome (sym (passed_session ∙ is)) refl)

  module _ (session : Option Session) (plain : List ℕ) where
    abbrev joined : Volatile
    joined = message_joined passed number session

    pub admitted_fits : IsTakenAs state command session plain → Fits state.registry (admitted_as state command session plain).at.volatile
    admitted_fits taken =
        let fit = joined_fits session plain taken in
        either (Fits state.registry) (command.ins == LOAD) joined (without_load joined number) fit (without_load_fits state.registry joined number fit)

    -- the channel has selected what it had
    pub admitted_selected : selected_on (admitted_as state command session plain).at.volatile number ≡ selected_on state.volatile number
    admitted_selected =
        let same = joined_selected session
        ∙ stays selected_of state.volatile number after low (passed_selected (command.ins == EXTERNAL_AUTHENTICATE) (channel_at state.volatile number)) in
        either (λ (v : Volatile). selected_on v number ≡ selected_on state.volatile number) (command.ins == LOAD) joined (without_load joined number) same same

    -- the channel's load session has ended, but for the command that goes on with it
    pub admitted_loads : (command.ins == LOAD) ≡ false
        → load_without_channel number (admitted_as state command session plain).at.volatile.load ≡ (admitted_as state command session plain).at.volatile.load
    admitted_loads other = by (command.ins == LOAD) other
      where
        by : (goes : Bool) → goes ≡ false
            → load_without_channel number (if goes then joined else without_load joined number).load ≡ (if goes then joined else without_load joined number).load
        by true is = absurd (true≢false is)
        by false is = others_left number joined.load

    -- the session that protects the command is the channel's still
    pub admitted_session : IsTakenAs state command session plain → is_protected command ≡ true → HasSession (admitted_as state command session plain).at.volatile number
    admitted_session taken protected = (let has = joined_session session plain taken protected in either (λ (v : Volatile). HasSession v number) (command.ins == LOAD) joined (without_load joined number) has has)
