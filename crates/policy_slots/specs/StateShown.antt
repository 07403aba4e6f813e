-- How what the code keeps says the state of a card, as far as the rules look.
use Rattle.std.specs.Option.{option_map}
use Rattle.std.specs.Prelude.{◌≡◌, ℕ, ◌<◌, List, Option, None, Some, slice_index_or, ◌↔◌, Bool, IsTrue, length}
use Rattle.card_types.specs.Registry.{Registry}
use Rattle.card_types.specs.Represents.{Represents, domain_aid, thing_in}
use Rattle.card_types.specs.Well.{Well}
use Rattle.card_types.specs.declared.tables.Entry.{Entry}
use Rattle.card_types.specs.declared.tables.Tables.{Tables}
use Rattle.policy_machine.specs.Admission.{Admitted}
use Rattle.policy_machine.specs.Management.{acting}
use Rattle.policy_machine.specs.Sound.{IsSound}
use Rattle.policy_machine.specs.State.{Place, State, Channel, LoadSession, channel_at, place_in, selected_on}
use Rattle.policy_machine.specs.declared.channels.TheConstants.{CHANNELS}
use Rattle.policy_slots.specs.declared.live.Live.{Live}
use Rattle.policy_slots.specs.declared.live.LoadName.{LoadName}
use Rattle.policy_slots.specs.declared.live.Place.{Place as KeptPlace}

-- Places in a listing, as the code keeps them.

-- a place in a listing, as the code keeps it
abbrev pub place_of : KeptPlace → Place
place_of place = record { kind = place.kind; body = place.body.items; last = place.last }

-- the slot is that of the entry that the channel has selected; where the channel is closed there is none
abbrev pub IsSelectedIn : List (Option Entry) → Option ℕ → Option Channel → Type 0
IsSelectedIn entries None None = Unit {0}
IsSelectedIn entries None (Some channel) = ⊥
IsSelectedIn entries (Some slot) None = ⊥
IsSelectedIn entries (Some slot) (Some channel) = (entry : Entry) × (thing_in entries slot ≡ Some entry) × (entry.aid ≡ channel.selected)

-- the load session that the code has named: its channel, its AID, its domain by the slot, and how many blocks have come
abbrev pub IsLoadNamed : List (Option Entry) → Option LoadName → Option LoadSession → Type 0
IsLoadNamed entries None None = Unit {0}
IsLoadNamed entries None (Some load) = ⊥
IsLoadNamed entries (Some name) None = ⊥
IsLoadNamed entries (Some name) (Some load) =
    (name.channel ≡ load.channel) × (name.aid ≡ load.aid) × (domain_aid entries name.domain ≡ load.domain) × (name.next ≡ load.blocks)

-- What the code keeps says this state, as far as the rules look: the tables say the registry over these load pages, for each
-- channel its slot is that of the AID selected and its place the one in the listing, and the load session is the one named.
-- What else a channel and a load session have is said elsewhere.
pub record RepresentsState (page : ℕ → List ℕ) (tables : Tables) (live : Live) (state : State) : Type 0 where
  pub registry : Represents page tables state.registry
  pub selected : (number : ℕ) → number < CHANNELS
      → IsSelectedIn tables.entries.items (slice_index_or live.selected number None) (channel_at state.volatile number)
  pub places : (number : ℕ) → number < CHANNELS
      → option_map place_of (slice_index_or live.places number None) ≡ place_in (channel_at state.volatile number)
  pub load : IsLoadNamed tables.entries.items live.load state.volatile.load

-- For the code inside. Commands that act for the domain in a slot: what the tables and what is kept beside them say of such a command.

-- The tables say the registry that a command is judged by, and the slot is that of the domain that it acts for.
pub record ActsIn (page : ℕ → List ℕ) (tables : Tables) (domain : ℕ) (admitted : Admitted) : Type 0 where
  pub says : Represents page tables admitted.at.registry
  pub well : Well admitted.at.registry
  pub entry : Entry
  pub at : thing_in tables.entries.items domain ≡ Some entry
  pub on : acting admitted ≡ domain_aid tables.entries.items domain

-- a command that has passed acts on the registry that the card had before, for the domain that was selected then
abbrev pub ActsAsBefore : Admitted → Type 0
ActsAsBefore admitted =
    (admitted.at.registry ≡ admitted.before.registry)
    × (selected_on admitted.at.volatile admitted.channel ≡ selected_on admitted.before.volatile admitted.channel)

-- `So` holds of each command that acts for the domain in a slot, over any load pages.
abbrev pub ForActing : Tables → ℕ → ((ℕ → List ℕ) → Admitted → Type 0) → Type 0
ForActing tables domain So = (page : ℕ → List ℕ) (admitted : Admitted) → ActsIn page tables domain admitted → So page admitted

-- `So` holds of each command that acts for the domain in a slot, over any load pages, where what is kept beside the
-- tables says the volatile state.
abbrev pub ForActingLive : Tables → Live → ℕ → ((ℕ → List ℕ) → Admitted → Type 0) → Type 0
ForActingLive tables live domain So =
    ForActing tables domain (λ page admitted. RepresentsState page tables live admitted.at → length admitted.at.volatile.channels ≡ CHANNELS → So page admitted)

-- `So` holds of each command on the channel, where the tables and what is kept beside them say a sound state: that before the command
-- or that at it, as `state` picks.
abbrev pub ForSound : Tables → Live → ℕ → (Admitted → State) → (Admitted → Type 0) → Type 0
ForSound tables live channel state So =
    (page : ℕ → List ℕ) (admitted : Admitted) → RepresentsState page tables live (state admitted) → IsSound (state admitted) → channel ≡ admitted.channel → So admitted

-- `So` holds of the AID of the entry in a slot, in any well registry that the tables represent.
abbrev pub ForEntry : Tables → ℕ → (Registry → List ℕ → Type 0) → Type 0
ForEntry tables slot So =
    (page : ℕ → List ℕ) (said : Registry) (entry : Entry) → Represents page tables said → Well said
    → thing_in tables.entries.items slot ≡ Some entry → So said (domain_aid tables.entries.items slot)

-- what tells whether a SET STATUS sets the card's own life cycle state
abbrev pub TellsCard : Bool → Admitted → Type 0
TellsCard card admitted = IsTrue card ↔ (admitted.command.p1 ≡ 0x80)
