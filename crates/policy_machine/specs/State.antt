-- The whole of a card: its registry, and its volatile state, which is its logical channels, with what each has selected and holds
-- (GlobalPlatform Card Specification 2.3.1, chapter 6; Amendment D, chapter 5), and the load session.
use Rattle.std.specs.List.{slice_index_or}
use Rattle.std.specs.Prelude.{ℕ, ◌-◌, List, [], ◌∷◌, Option, None, Some, replicate, slice_set, if◌then◌else◌, ◌==◌}
use Rattle.card_types.specs.Registry.{Registry}
use Rattle.card_types.specs.declared.factory.TheConstants.{ISSUER}
use Rattle.policy_machine.specs.declared.channels.TheConstants.{CHANNELS}
use Rattle.scp03_card.specs.Offer.{Offer}
use Rattle.scp03_card.specs.Session.{Session}

-- what an open channel holds besides its selection
pub data SecureChannel : Type 0 where
  Nothing : SecureChannel
  Offered : Offer → SecureChannel
  Secured : Session → SecureChannel

-- where a listing of the registry goes on: its P1, its data field, and the last AID shown
pub record Place : Type 0 where
  pub kind : ℕ
  pub body : List ℕ
  pub last : List ℕ

-- an open channel
pub record Channel : Type 0 where
  pub selected : List ℕ
  pub secure_channel : SecureChannel
  pub place : Option Place

-- an Executable Load File that comes in blocks, on one channel
pub record LoadSession : Type 0 where
  pub channel : ℕ
  pub aid : List ℕ
  pub domain : List ℕ
  pub hash : List ℕ
  pub announced : Option ℕ
  pub bytes : List ℕ
  pub blocks : ℕ

-- the channels, each closed or open, and the load session, if there is one
pub record Volatile : Type 0 where
  pub channels : List (Option Channel)
  pub load : Option LoadSession

-- a channel on which an entry was just selected
abbrev pub fresh : List ℕ → Channel
fresh aid = record { selected = aid; secure_channel = Nothing; place = None }

-- after power on or reset channel 0 alone is open, with the Issuer Security Domain selected
abbrev pub first_volatile : Volatile
first_volatile = record { channels = Some (fresh ISSUER) ∷ replicate (CHANNELS - 1) None; load = None }

abbrev pub channel_at : Volatile → ℕ → Option Channel
channel_at volatile number = slice_index_or volatile.channels number None

abbrev pub with_channel : Volatile → ℕ → Option Channel → Volatile
with_channel volatile number channel = record { channels = slice_set volatile.channels number channel; load = volatile.load }

-- the AID that is selected on a channel
abbrev pub selected_of : Option Channel → List ℕ
selected_of None = []
selected_of (Some channel) = channel.selected

abbrev pub selected_on : Volatile → ℕ → List ℕ
selected_on volatile number = selected_of (channel_at volatile number)

-- the offer and the session that a channel has
abbrev pub offer_in : SecureChannel → Option Offer
offer_in (Offered offer) = Some offer
offer_in secure_channel = None

abbrev pub session_in : SecureChannel → Option Session
session_in (Secured session) = Some session
session_in secure_channel = None

abbrev pub secure_channel_of : Option Channel → SecureChannel
secure_channel_of None = Nothing
secure_channel_of (Some channel) = channel.secure_channel

-- the place in a listing that a channel has
abbrev pub place_in : Option Channel → Option Place
place_in None = None
place_in (Some channel) = channel.place

abbrev pub offer_on : Volatile → ℕ → Option Offer
offer_on volatile number = offer_in (secure_channel_of (channel_at volatile number))

abbrev pub session_on : Volatile → ℕ → Option Session
session_on volatile number = session_in (secure_channel_of (channel_at volatile number))

-- an open channel holds this then
abbrev pub channel_with : SecureChannel → Option Channel → Option Channel
channel_with secure_channel None = None
channel_with secure_channel (Some channel) = Some (record { selected = channel.selected; secure_channel = secure_channel; place = channel.place })

abbrev pub with_secure_channel : Volatile → ℕ → SecureChannel → Volatile
with_secure_channel volatile number secure_channel = with_channel volatile number (channel_with secure_channel (channel_at volatile number))

-- an offer is dropped, and anything else stays
abbrev pub without_offer : SecureChannel → SecureChannel
without_offer (Offered offer) = Nothing
without_offer secure_channel = secure_channel

-- the channel's offer is dropped, if it has one
abbrev pub with_offer_dropped : Volatile → ℕ → Volatile
with_offer_dropped volatile number = with_secure_channel volatile number (without_offer (secure_channel_of (channel_at volatile number)))

-- the load session without that of a channel
abbrev pub load_without_channel : ℕ → Option LoadSession → Option LoadSession
load_without_channel number None = None
load_without_channel number (Some load) = if load.channel == number then None else Some load

-- the channel's load session ends
abbrev pub without_load : Volatile → ℕ → Volatile
without_load volatile number = record { channels = volatile.channels; load = load_without_channel number volatile.load }

-- a load session begins, or goes on so
abbrev pub with_load : Volatile → LoadSession → Volatile
with_load volatile load = record { channels = volatile.channels; load = Some load }

-- the channel's session ends, and its load session with it
abbrev pub without_session : Volatile → ℕ → Volatile
without_session volatile number = without_load (with_secure_channel volatile number Nothing) number

-- an entry is selected, and all that the channel had ends
abbrev pub with_selected : Volatile → ℕ → List ℕ → Volatile
with_selected volatile number aid = without_load (with_channel volatile number (Some (fresh aid))) number

-- a channel is closed, with all that it had
abbrev pub without_channel : Volatile → ℕ → Volatile
without_channel volatile number = without_load (with_channel volatile number None) number

pub record State : Type 0 where
  pub registry : Registry
  pub volatile : Volatile

-- after power on or reset
abbrev pub powered_on : Registry → State
powered_on registry = record { registry = registry; volatile = first_volatile }

-- an accepted command: the card after it, and the body and status word of the reply
pub record Effect : Type 0 where
  pub state : State
  pub body : List ℕ
  pub status : ℕ
