-- What the code keeps of a host.
use Rattle.std.specs.Prelude.{◌≡◌, ℕ, List, Option, None, Some, option_map}
use Rattle.scp03_card.specs.Kept.{KeptSession, RepresentsSession}
use Rattle.scp03_card.specs.Session.{Session}
use Rattle.scp03_host.specs.declared.refusals.ReplyRefusal.{ReplyRefusal}
use Rattle.script_lines.specs.declared.channel.Channel.{Channel}
use Rattle.script_lines.specs.declared.channel.Channel.TheVariants.{Basic, First, Second, Third}
use Rattle.script_tool.specs.Host.{Host, Sessions}
use Rattle.script_tool.specs.InSession.{refusal_word}
use Rattle.script_tool.specs.Printed.{Printed, Nothing, Reply, Opened, Cryptogram, Said, Differs}
use Rattle.script_tool.specs.Talk.{IsReplyTaken, Refused}
use Rattle.script_tool.specs.declared.channel_sessions.ChannelSessions.{ChannelSessions}
use Rattle.script_tool.specs.declared.host_state.HostState.{HostState}
use Rattle.script_tool.specs.declared.word.Word.{Word}
use Rattle.script_tool.specs.declared.printout.Printout as the_type
use Rattle.script_tool.specs.declared.printout.Printout.TheVariants as printout

-- no session on any channel
abbrev pub no_kept : ChannelSessions
no_kept = record { basic = None; first = None; second = None; third = None }

abbrev pub kept_on : Channel → ChannelSessions → Option KeptSession
kept_on Basic all = all.basic
kept_on First all = all.first
kept_on Second all = all.second
kept_on Third all = all.third

abbrev pub with_kept : Channel → Option KeptSession → ChannelSessions → ChannelSessions
with_kept Basic session all = record { basic = session; first = all.first; second = all.second; third = all.third }
with_kept First session all = record { basic = all.basic; first = session; second = all.second; third = all.third }
with_kept Second session all = record { basic = all.basic; first = all.first; second = session; third = all.third }
with_kept Third session all = record { basic = all.basic; first = all.first; second = all.second; third = session }

-- what is kept is a session, where there is one
abbrev pub MayBeSession : Option KeptSession → Option Session → Type 0
MayBeSession None None = Unit {0}
MayBeSession (Some kept) (Some session) = RepresentsSession kept session
MayBeSession None (Some session) = ⊥
MayBeSession (Some kept) None = ⊥

-- the word is said of a reply that no card sends in the session
abbrev pub RefusesAs : Session → List ℕ → Word → Type 0
RefusesAs session reply word = (why : ReplyRefusal) × (word ≡ refusal_word why) × IsReplyTaken session reply (Refused why)

pub record AreSessions (kept : ChannelSessions) (sessions : Sessions) : Type 0 where
  pub basic : MayBeSession kept.basic sessions.basic
  pub first : MayBeSession kept.first sessions.first
  pub second : MayBeSession kept.second sessions.second
  pub third : MayBeSession kept.third sessions.third

-- what is kept is this host
pub record RepresentsHost (kept : HostState) (host : Host) : Type 0 where
  pub channel : kept.channel ≡ host.channel
  pub keys : kept.keys ≡ host.keys
  pub tokens : kept.tokens ≡ host.tokens
  pub sessions : AreSessions kept.sessions host.sessions
  pub last : kept.last ≡ host.last

-- what is printed
abbrev pub printed_of : the_type.Printout → Printed
printed_of printout.Nothing = Nothing
printed_of (printout.Reply field status) = Reply field.items status.0
printed_of (printout.Opened counter status) = Opened counter status.0
printed_of (printout.Cryptogram counter) = Cryptogram counter
printed_of (printout.Said word) = Said word
printed_of (printout.Differs want got) = Differs want.0 (option_map (λ status. status.0) got)
