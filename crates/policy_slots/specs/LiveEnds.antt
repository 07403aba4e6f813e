-- For the code inside. What the code keeps of the channels and of the load session: how it begins, where some of it ends, a place
-- in a listing, and a block that is counted.
use Rattle.std.specs.Prelude.{ℕ, ◌+◌, ◌-◌, ◌∷◌, Option, None, Some, replicate, slice_set, if◌then◌else◌, ◌==◌}
use Rattle.card_types.specs.declared.tables.TheConstants.{ISSUER_SLOT}
use Rattle.policy_machine.specs.declared.channels.TheConstants.{CHANNELS}
use Rattle.policy_slots.specs.declared.live.Live.{Live}
use Rattle.policy_slots.specs.declared.live.LoadName.{LoadName}
use Rattle.policy_slots.specs.declared.live.Place.{Place}

-- after power on or reset channel 0 alone is open, with the Issuer Security Domain selected
abbrev pub first_live : Live
first_live = record { selected = Some ISSUER_SLOT ∷ replicate (CHANNELS - 1) None; load = None; places = replicate CHANNELS None }

-- the channel has no place in a listing
abbrev pub live_without_place : Live → ℕ → Live
live_without_place live number = record { selected = live.selected; load = live.load; places = slice_set live.places number None }

-- the channel has this place in a listing
abbrev pub live_with_place : Live → ℕ → Place → Live
live_with_place live number place = record { selected = live.selected; load = live.load; places = slice_set live.places number (Some place) }

-- the load session without that of a channel
abbrev pub kept_of_others : ℕ → Option LoadName → Option LoadName
kept_of_others number None = None
kept_of_others number (Some load) = if load.channel == number then None else Some load

-- a load session has begun, which is named so
abbrev pub live_with_load : Live → LoadName → Live
live_with_load live load = record { selected = live.selected; load = Some load; places = live.places }

-- the channel's load session has ended
abbrev pub live_without_load : Live → ℕ → Live
live_without_load live number = record { selected = live.selected; load = kept_of_others number live.load; places = live.places }

-- one more block of the load session has come
abbrev pub after_block : Option LoadName → Option LoadName
after_block None = None
after_block (Some load) = Some (record { channel = load.channel; aid = load.aid; domain = load.domain; next = load.next + 1 })

abbrev pub live_with_block : Live → Live
live_with_block live = record { selected = live.selected; load = after_block live.load; places = live.places }

-- the channel has this selected, or is closed, and all that it had has ended
abbrev pub live_with_channel : Live → ℕ → Option ℕ → Live
live_with_channel live number slot = record {
  selected = slice_set live.selected number slot;
  load = kept_of_others number live.load;
  places = slice_set live.places number None;
}
