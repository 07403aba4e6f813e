-- What a card keeps after the check of the class, and after secure messaging.
use Rattle.std.proofs.Common.{◌≡◌, ℕ, ◌<◌, List, Bool, true, false, Option, None, Some, Err, refl, sym, ap, subst, ◌∙◌, inl, inr, length}
use Rattle.std.specs.Prelude.{MatchOption, if◌then◌else◌, slice_index_or, slice_set, ◌==◌}
use Rattle.std.proofs.lemmas.List.{get_or-set_same, get_or_default, set-get_or}
use Rattle.card_core.specs.Prelude.{Apdu, GeneralFails, Gives, IsAuthentic, IsFirst, IsInSession, IsKnown, IsPlaceBefore, IsPlainManagement, IsSound, IsTakenAs, IsTerminatedFor, Kept, KeptRepresents, LoadSession, Nothing, Opens, OpensAs, RepresentsSecureChannel, Secured, Serves, Session, Short, State, Volatile, accepting, admitted_as, channel_at, channel_of, class_of, class_passed, command_rules, field_of, held_on, held_passed, is_protected, kept_live, kept_set, live_passed, live_without_load, live_without_place, place_in, place_of, protects, secure_channel_of, session_for, session_in, status_bytes, status_of, with_secure_channel, without_load, without_offer_held, without_place, without_session}
use Rattle.card_types.specs.declared.card_life.CardLife.{CardLife}
use Rattle.policy_machine.proofs.Passing.{admitted_fits, channel_is_low, class_fits, passed_session}
use Rattle.policy_machine.proofs.SecureChannelSet.{unloaded}
use Rattle.policy_slots.specs.declared.live.Place.{Place}
use Rattle.std.specs.Option.{option_map}
use Rattle.policy_machine.specs.declared.class.Class.{Class}
use Rattle.policy_machine.specs.declared.instruction.TheConstants.{EXTERNAL_AUTHENTICATE, LOAD}
use Rattle.policy_machine.specs.declared.channels.TheConstants.{CHANNELS}
use Rattle.policy_machine.specs.declared.rule.Rule.TheVariants.{G}
use Rattle.policy_machine.specs.declared.rule.RuleG.{RuleG}
use Rattle.policy_machine.specs.declared.rule.RuleG.TheVariants.{G1, G2, G3, G4, G5, G6, G7, G8}
use Rattle.policy_slots.specs.declared.live.Live.{Live}
use Rattle.card_core.specs.declared.channel_session.ChannelSession.{ChannelSession}
use Rattle.card_core.specs.declared.channel_session.ChannelSession.TheVariants as held
use Rattle.card_core.proofs.Serving.{rejected, managed_first, no_session_first, over_first, protected_unmanaged, wrong_mac_first, wrong_padding_first}
use Rattle.card_core.proofs.ChannelChanges.{held_same, load_ended_shows, passed_shows, session_passed_shows, shows_same, secure_channel_shows}

within : (all : List ChannelSession) (number : ℕ) → length all ≡ CHANNELS → number < CHANNELS → number < length all
within all number four low = subst (λ (n : ℕ). number < n) (sym four) low

-- what is read of a channel
pub read_at : (all : List ChannelSession) (place number : ℕ) (other : ChannelSession) → length all ≡ CHANNELS → number < CHANNELS → place ≡ number
    → slice_index_or all place other ≡ slice_index_or all number held.Nothing
read_at all place number other four low is =
    ap (λ (n : ℕ). slice_index_or all n other) is ∙ get_or_default all number other held.Nothing (within all number four low)

-- what is read of a channel when something was written to it
pub written_at : (all : List ChannelSession) (place number : ℕ) (now other : ChannelSession) → length all ≡ CHANNELS → number < CHANNELS → place ≡ number
    → slice_index_or (slice_set all place now) place other ≡ now
written_at all place number now other four low is = get_or-set_same all place now other (subst (λ (n : ℕ). n < length all) (sym is) (within all number four low))

session_stays : (now : ChannelSession) → IsInSession now → without_offer_held now ≡ now
session_stays held.Nothing secured = absurd secured
session_stays (held.Offered offer) secured = absurd secured
session_stays (held.Secured session) secured = refl

-- no offer is dropped where there is a session
pub session_kept : (all : List ChannelSession) (number : ℕ) → IsInSession (held_on all number) → slice_set all number (without_offer_held (held_on all number)) ≡ all
session_kept all number secured = ap (slice_set all number) (session_stays (held_on all number) secured) ∙ set-get_or all number held.Nothing

pub protects_so : (command : Apdu) (class : Class) (answer test : Bool) → class_of command.class ≡ Some class → answer ≡ protects (Some class) command.ins
    → answer ≡ test → is_protected command ≡ test
protects_so command class answer test is_class answers is = ap (λ (c : Option Class). protects c command.ins) is_class ∙ sym answers ∙ is

-- after secure messaging what is selected is what it was
pub selected_same : (ins number : ℕ) (live : Live) → (live_passed ins number live).selected ≡ live.selected
selected_same ins number live = by (ins == LOAD)
  where
    by : (goes_on : Bool) → (if goes_on then live else live_without_load live number).selected ≡ live.selected
    by true = refl
    by false = refl

pub opened_so : (live : Live) (command : Apdu) (channel selected : ℕ) → channel ≡ channel_of command.class → slice_index_or live.selected channel None ≡ Some selected
    → slice_index_or live.selected (channel_of command.class) None ≡ Some selected
opened_so live command channel selected is opened = subst (λ (n : ℕ). slice_index_or live.selected n None ≡ Some selected) is opened

module _ (page : ℕ → List ℕ) (card : Kept) (state : State) (shows : KeptRepresents page card state) (sound : IsSound state) (command : Apdu) where
  abbrev number : ℕ
  number = channel_of command.class

  low : number < CHANNELS
  low = channel_is_low command.class

  -- what the command's channel holds after the check of the class
  abbrev pub passed_held : ChannelSession
  passed_held = held_passed (command.ins == EXTERNAL_AUTHENTICATE) (held_on card.sessions number)

  abbrev passed : Volatile
  passed = class_passed state.volatile command

  -- what is kept then: the channel has no place in a listing
  abbrev pub card_passed : Kept
  card_passed = kept_set card (live_without_place card.live number) number passed_held

  shows_passed : KeptRepresents page card_passed (record { registry = state.registry; volatile = passed })
  shows_passed = passed_shows page card state shows sound.fits.channels number low (command.ins == EXTERNAL_AUTHENTICATE)

  four_passed : length passed.channels ≡ CHANNELS
  four_passed = (class_fits state.registry state.volatile command sound.fits).channels

  pub sound_at : (session : Option Session) (plain : List ℕ) → IsTakenAs state command session plain → IsSound (admitted_as state command session plain).at
  sound_at session plain taken = record {
    well = sound.well;
    ascending = sound.ascending;
    fits = admitted_fits state command sound.fits session plain taken;
  }

  -- the card goes on
  pub goes_on : (class : Class) → (IsTerminatedFor card.tables.life class command.ins → ⊥) → IsTerminatedFor state.registry.life class command.ins → ⊥
  goes_on class not_over over = not_over (subst (λ (life : CardLife). IsTerminatedFor life class command.ins) (sym shows.says.registry.life) over)

  -- a command in plain
  pub plain_shows : KeptRepresents page (kept_live card_passed (live_passed command.ins number card_passed.live)) (admitted_as state command None command.body).at
  plain_shows = session_passed_shows page card_passed state.registry passed command shows_passed

  -- what the channel holds then stands for what it holds in the model
  pub holds_passed : RepresentsSecureChannel (held_on card_passed.sessions number) (secure_channel_of (channel_at passed number))
  holds_passed = shows_passed.holds number low

  -- the session on the channel
  pub session_of : (holds : Session → Type 0) → MatchOption (session_in (secure_channel_of (channel_at passed number))) ⊥ holds
      → (session : Session) × (session_for state command ≡ Some session) × holds session
  session_of holds found =
      by (session_for state command) refl (subst (λ (o : Option Session). MatchOption o ⊥ holds) (passed_session state command sound.fits) found)
    where
      by : (o : Option Session) → session_for state command ≡ o → MatchOption o ⊥ holds → (session : Session) × (session_for state command ≡ Some session) × holds session
      by None at none = absurd none
      by (Some session) at is = (session, at, is)

  module _ (slot : ℕ) (opened : slice_index_or card.live.selected number None ≡ Some slot) where
    -- its session has ended
    ended_shows : (now : ChannelSession) → now ≡ held.Nothing
        → KeptRepresents page (kept_set card_passed (live_without_load card_passed.live number) number now) (record { registry = state.registry; volatile = without_session passed number })
    ended_shows now gone =
        load_ended_shows page (kept_set card_passed card_passed.live number now) state.registry (with_secure_channel passed number Nothing) number
        (secure_channel_shows page card_passed (record { registry = state.registry; volatile = passed }) shows_passed four_passed number low slot now Nothing opened
        (subst (λ (h : ChannelSession). RepresentsSecureChannel h Nothing) (sym gone) tt))

    -- card content management in plain ends it
    pub managed_served : (bytes reply : List ℕ) → Short command bytes → IsKnown command.class command.ins → (class : Class) → class_of command.class ≡ Some class
        → IsFirst (GeneralFails state bytes) command_rules None → (IsTerminatedFor state.registry.life class command.ins → ⊥) → IsPlainManagement command
        → (now : ChannelSession) → now ≡ held.Nothing → reply ≡ status_bytes (status_of (G G6))
        → Serves page state bytes (kept_set card_passed (live_without_load card_passed.live number) number now) reply (Some (G G6))
    managed_served bytes reply short known class is_class front not_over managed now gone is =
        rejected page (kept_set card_passed (live_without_load card_passed.live number) number now) state bytes reply G6 (without_session passed number) sound
        (managed_first state bytes command short known class is_class front not_over managed) (command, short, inl (managed, refl)) (ended_shows now gone) is

  module _ (slot : ℕ) (opened : slice_index_or card.live.selected number None ≡ Some slot) (protected : is_protected command ≡ true) where
    -- a protected command that opens
    pub opened_shows : (session : Session) (now : ChannelSession) (plain : List ℕ) → RepresentsSecureChannel now (Secured (accepting session command))
        → KeptRepresents page (kept_set card_passed (live_passed command.ins number card_passed.live) number now) (admitted_as state command (Some (accepting session command)) plain).at
    opened_shows session now plain holds =
        session_passed_shows page (kept_set card_passed card_passed.live number now) state.registry (with_secure_channel passed number (Secured (accepting session command))) command
        (secure_channel_shows page card_passed (record { registry = state.registry; volatile = passed }) shows_passed four_passed number low slot now
        (Secured (accepting session command)) opened holds)

    pub opened_sound : (session : Session) → session_for state command ≡ Some session → (plain : List ℕ) → Opens session command plain
        → IsSound (admitted_as state command (Some (accepting session command)) plain).at
    opened_sound session is plain opens = sound_at (Some (accepting session command)) plain (
      protected,
      subst (λ (o : Option Session). MatchOption o ⊥ (λ s. Opens s command plain × (accepting session command ≡ accepting s command))) (sym is) (opens, refl),
    )

    -- without a session the channel has no load session
    unloaded_shows : (now : ChannelSession) → now ≡ held_on card_passed.sessions number → session_for state command ≡ None
        → KeptRepresents page (kept_set card_passed (live_without_load card_passed.live number) number now) (record { registry = state.registry; volatile = passed })
    unloaded_shows now same none =
        shows_same page (kept_set card_passed (live_without_load card_passed.live number) number now) state.registry
        (without_load passed number) passed
        (ap (λ (load : Option LoadSession). record { channels = passed.channels; load = load }) (unloaded state.registry state.volatile number sound.fits none))
        (load_ended_shows page (kept_set card_passed card_passed.live number now) state.registry passed number
        (held_same page card_passed (record { registry = state.registry; volatile = passed }) number now (sym same) shows_passed))

    module _ (bytes : List ℕ) (short : Short command bytes) (known : IsKnown command.class command.ins)
        (class : Class) (is_class : class_of command.class ≡ Some class) (front : IsFirst (GeneralFails state bytes) command_rules None)
        (not_over : IsTerminatedFor state.registry.life class command.ins → ⊥) where
      -- a rule on secure messaging refuses it
      pub refused_served : (now : ChannelSession) (plain reply : List ℕ) (rule : RuleG)
          → OpensAs command (secure_channel_of (channel_at passed number)) (held_on card_passed.sessions number) now plain (Err rule)
          → reply ≡ status_bytes (status_of (G rule))
          → Serves page state bytes (kept_set card_passed (live_without_load card_passed.live number) number now) reply (Some (G rule))
      refused_served now plain reply G6 (none, same) is =
          rejected page (kept_set card_passed (live_without_load card_passed.live number) number now) state bytes reply G6 passed sound
          (no_session_first state bytes command short known class is_class front not_over protected (sym (passed_session state command sound.fits) ∙ none))
          (command, short, inr (protected_unmanaged command protected, refl))
          (unloaded_shows now same (sym (passed_session state command sound.fits) ∙ none)) is
      refused_served now plain reply G7 (gone, wrong) is =
          let found = session_of (λ session. IsAuthentic session command → ⊥) wrong in
          rejected page (kept_set card_passed (live_without_load card_passed.live number) number now) state bytes reply G7 (without_session passed number) sound
          (wrong_mac_first state bytes command short known class is_class front not_over protected found.0 found.1 found.2)
          (command, short, refl) (ended_shows slot opened now gone) is
      refused_served now plain reply G8 (gone, wrong) is =
          let found = session_of (λ session. IsAuthentic session command × ((b : List ℕ) → Gives (accepting session command) (field_of command) b → ⊥)) wrong in
          rejected page (kept_set card_passed (live_without_load card_passed.live number) number now) state bytes reply G8 (without_session passed number) sound
          (wrong_padding_first state bytes command short known class is_class front not_over protected found.0 found.1 found.2.0 found.2.1)
          (command, short, refl) (ended_shows slot opened now gone) is
      refused_served now plain reply G1 opens is = absurd opens
      refused_served now plain reply G2 opens is = absurd opens
      refused_served now plain reply G3 opens is = absurd opens
      refused_served now plain reply G4 opens is = absurd opens
      refused_served now plain reply G5 opens is = absurd opens

  -- the card is terminated
  pub over_served : (bytes reply : List ℕ) → Short command bytes → (class : Class) → class_of command.class ≡ Some class
      → IsKnown command.class command.ins → IsFirst (GeneralFails state bytes) command_rules None → IsTerminatedFor state.registry.life class command.ins
      → reply ≡ status_bytes (status_of (G G5))
      → Serves page state bytes (kept_set card (live_without_place card.live number) number (held_passed false (held_on card.sessions number))) reply (Some (G G5))
  over_served bytes reply short class is_class known front over is =
      rejected page (kept_set card (live_without_place card.live number) number (held_passed false (held_on card.sessions number))) state bytes reply G5
      (without_place state.volatile number false) sound (over_first state bytes command short known class is_class front over)
      (command, short, refl) (passed_shows page card state shows sound.fits.channels number low false) is

-- the place in a listing that the channel had is that of the card before the command
pub place_told : (page : ℕ → List ℕ) (card : Kept) (state : State) → KeptRepresents page card state → (command : Apdu) (session : Option Session) (plain : List ℕ) (channel : ℕ)
    → channel ≡ channel_of command.class → channel < CHANNELS → (place : Option Place) → place ≡ slice_index_or card.live.places channel None
    → IsPlaceBefore place (admitted_as state command session plain)
place_told page card state shows command session plain channel here low place is =
    ap (option_map place_of) is ∙ shows.says.places channel low ∙ ap (λ (n : ℕ). place_in (channel_at state.volatile n)) here
