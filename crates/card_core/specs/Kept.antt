-- What a card keeps, and the states of the policy machine that it shows.
use Rattle.std.specs.Prelude.{ℕ, ◌<◌, List, Bool, true, false, Option, slice_index_or, slice_set, ◌≡◌, length}
use Rattle.card_check.specs.IsCard.{HasPages, IsCard}
use Rattle.card_core.specs.Loading.{RepresentsLoading}
use Rattle.card_core.specs.declared.channel_session.ChannelSession.{ChannelSession}
use Rattle.card_core.specs.declared.channels.Channels.{Channels}
use Rattle.card_types.specs.declared.tables.Tables.{Tables}
use Rattle.load_session.specs.declared.session.LoadSession.{LoadSession}
use Rattle.policy_machine.specs.Admission.{Admitted}
use Rattle.policy_machine.specs.Sound.{IsSound}
use Rattle.policy_machine.specs.State.{Nothing, Offered, Secured, SecureChannel, Volatile, channel_at, secure_channel_of, State}
use Rattle.policy_machine.specs.declared.channels.TheConstants.{CHANNELS}
use Rattle.policy_slots.specs.StateShown.{RepresentsState}
use Rattle.policy_slots.specs.declared.live.Live.{Live}
use Rattle.scp03_card.specs.Kept.{RepresentsSession, RepresentsOffer}
use Rattle.card_core.specs.declared.channel_session.ChannelSession.TheVariants as held

-- What the code holds on a channel, and what it stands for (GlobalPlatform Amendment D, chapter 5).

abbrev pub IsOffered : ChannelSession → Type 0
IsOffered held.Nothing = ⊥
IsOffered (held.Offered offer) = Unit {0}
IsOffered (held.Secured session) = ⊥

abbrev pub IsInSession : ChannelSession → Type 0
IsInSession held.Nothing = ⊥
IsInSession (held.Offered offer) = ⊥
IsInSession (held.Secured session) = Unit {0}

abbrev pub without_offer_held : ChannelSession → ChannelSession
without_offer_held held.Nothing = held.Nothing
without_offer_held (held.Offered offer) = held.Nothing
without_offer_held (held.Secured session) = held.Secured session

-- it stands for what the channel holds
abbrev pub RepresentsSecureChannel : ChannelSession → SecureChannel → Type 0
RepresentsSecureChannel held.Nothing Nothing = Unit {0}
RepresentsSecureChannel held.Nothing (Offered offer) = ⊥
RepresentsSecureChannel held.Nothing (Secured session) = ⊥
RepresentsSecureChannel (held.Offered kept) Nothing = ⊥
RepresentsSecureChannel (held.Offered kept) (Offered offer) = RepresentsOffer kept offer
RepresentsSecureChannel (held.Offered kept) (Secured session) = ⊥
RepresentsSecureChannel (held.Secured kept) Nothing = ⊥
RepresentsSecureChannel (held.Secured kept) (Offered offer) = ⊥
RepresentsSecureChannel (held.Secured kept) (Secured session) = RepresentsSession kept session

-- what is held on a channel
abbrev pub held_on : List ChannelSession → ℕ → ChannelSession
held_on all number = slice_index_or all number held.Nothing

-- what is held on each channel stands for what the channel holds
abbrev pub RepresentsChannels : List ChannelSession → Volatile → Type 0
RepresentsChannels all volatile = (number : ℕ) → number < CHANNELS → RepresentsSecureChannel (held_on all number) (secure_channel_of (channel_at volatile number))

-- what is held after the check of the class, by whether an offer is kept
abbrev pub held_passed : Bool → ChannelSession → ChannelSession
held_passed true held = held
held_passed false held = without_offer_held held

-- the tables of a card, and what it keeps of its channels: what is selected there, what each holds, and the load session on one
pub record Kept : Type 0 where
  pub tables : Tables
  pub live : Live
  pub sessions : List ChannelSession
  pub load : Option LoadSession

-- the load pages that are to be written are none of it
abbrev pub kept_of : Tables → Channels → Kept
kept_of tables channels = record { tables = tables; live = channels.live; sessions = channels.sessions; load = channels.loading.session }

-- with this in the place of what the rules see
abbrev pub kept_live : Kept → Live → Kept
kept_live card live = record { tables = card.tables; live = live; sessions = card.sessions; load = card.load }

-- with this, and a channel holds something else
abbrev pub kept_set : Kept → Live → ℕ → ChannelSession → Kept
kept_set card live number now = record { tables = card.tables; live = live; sessions = slice_set card.sessions number now; load = card.load }

-- whatever stands in the load pages, the tables are a card's
abbrev pub AreCards : Tables → Type 0
AreCards tables = (page : ℕ → List ℕ) → HasPages page → IsCard page tables

-- what is kept shows this state, over these load pages
pub record KeptRepresents (page : ℕ → List ℕ) (card : Kept) (state : State) : Type 0 where
  pub says : RepresentsState page card.tables card.live state
  pub four : length card.sessions ≡ CHANNELS
  pub holds : RepresentsChannels card.sessions state.volatile
  pub loading : RepresentsLoading page card.tables card.load state.volatile.load

-- it shows some state, which is sound
pub record RepresentsSome (card : Kept) : Type 0 where
  pub page : ℕ → List ℕ
  pub whole : HasPages page
  pub state : State
  pub shows : KeptRepresents page card state
  pub sound : IsSound state

-- `So` holds of each command that is judged by a sound state which this shows.
abbrev pub ForKept : Kept → ((ℕ → List ℕ) → Admitted → Type 0) → Type 0
ForKept card So = (page : ℕ → List ℕ) (admitted : Admitted) → HasPages page → KeptRepresents page card admitted.at → IsSound admitted.at → So page admitted
