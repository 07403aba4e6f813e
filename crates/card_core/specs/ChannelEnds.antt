-- For the code inside. What a card keeps of its channels: how it begins, and what a channel gets or loses.
use Rattle.std.specs.Prelude.{ℕ, List, Option, replicate, slice_set, if◌then◌else◌, ◌==◌}
use Rattle.policy_machine.specs.Step.{keeps_load}
use Rattle.policy_machine.specs.declared.channels.TheConstants.{CHANNELS}
use Rattle.policy_machine.specs.declared.instruction.TheConstants.{LOAD}
use Rattle.policy_machine.specs.declared.rule.Rule.{Rule}
use Rattle.policy_slots.specs.LiveEnds.{live_with_channel, live_without_load}
use Rattle.policy_slots.specs.declared.live.Live.{Live}
use Rattle.card_core.specs.Kept.{held_on, without_offer_held}
use Rattle.card_core.specs.declared.channel_session.ChannelSession.{ChannelSession}
use Rattle.card_core.specs.declared.channel_session.ChannelSession.TheVariants.{Nothing}
use Rattle.card_core.specs.declared.channels.Channels.{Channels}

-- no channel has an offer or a session
abbrev pub no_sessions : List ChannelSession
no_sessions = replicate CHANNELS Nothing

-- the channel has this selected, or is closed, and all that it had has ended
abbrev pub channels_with : Channels → ℕ → Option ℕ → Channels
channels_with channels number slot = record {
  live = live_with_channel channels.live number slot;
  sessions = slice_set channels.sessions number Nothing;
  loading = channels.loading;
}

-- after secure messaging the channel's load session has ended, unless the command goes on with it
abbrev pub live_passed : (ins number : ℕ) → Live → Live
live_passed ins number live = if ins == LOAD then live else live_without_load live number

-- after a refusal the channel's load session has ended, unless the rule keeps it
abbrev pub live_refused : Rule → ℕ → Live → Live
live_refused rule number live = if keeps_load rule then live else live_without_load live number

-- after a refusal the channel has no offer, and no load session that the rule does not keep
abbrev pub channels_refused : Channels → ℕ → Rule → Channels
channels_refused channels number rule = record {
  live = live_refused rule number channels.live;
  sessions = slice_set channels.sessions number (without_offer_held (held_on channels.sessions number));
  loading = channels.loading;
}
