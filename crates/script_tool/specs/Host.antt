-- What a host has, between two lines.
use Rattle.std.specs.Prelude.{Option, None}
use Rattle.apdu_core.specs.declared.reply.Status.{Status}
use Rattle.card_types.specs.declared.factory.TheConstants.{FACTORY_KEY}
use Rattle.scp03_card.specs.Session.{Session}
use Rattle.script_lines.specs.declared.channel.Channel.{Channel}
use Rattle.script_lines.specs.declared.channel.Channel.TheVariants.{Basic, First, Second, Third}
use Rattle.script_lines.specs.declared.keys.OfSize.{OfSize}
use Rattle.script_lines.specs.declared.keys.OfSize.TheVariants.{Aes128}
use Rattle.script_lines.specs.declared.keys.Trio.{Trio}
use Rattle.script_lines.specs.declared.tokens.Tokens.{Tokens}
use Rattle.script_lines.specs.declared.tokens.Tokens.TheVariants.{Absent}

-- a session for each logical channel that has one
pub record Sessions : Type 0 where
  pub basic : Option Session
  pub first : Option Session
  pub second : Option Session
  pub third : Option Session

abbrev pub no_host_sessions : Sessions
no_host_sessions = record { basic = None; first = None; second = None; third = None }

abbrev pub session_of : Channel → Sessions → Option Session
session_of Basic all = all.basic
session_of First all = all.first
session_of Second all = all.second
session_of Third all = all.third

-- those sessions, with this one, or none, on a channel
abbrev pub with_session : Channel → Option Session → Sessions → Sessions
with_session Basic session all = record { basic = session; first = all.first; second = all.second; third = all.third }
with_session First session all = record { basic = all.basic; first = session; second = all.second; third = all.third }
with_session Second session all = record { basic = all.basic; first = all.first; second = session; third = all.third }
with_session Third session all = record { basic = all.basic; first = all.first; second = all.second; third = session }

-- the channel of the next lines, the static keys of the next sessions, the tokens that commands carry, a session for each channel that has
-- one, and the status printed last
pub record Host : Type 0 where
  pub channel : Channel
  pub keys : OfSize (Trio 16) (Trio 24) (Trio 32)
  pub tokens : Tokens
  pub sessions : Sessions
  pub last : Option Status

-- at first it has the keys of the factory card, and makes no tokens
abbrev pub factory_trio : Trio 16
factory_trio = record { enc = FACTORY_KEY; mac = FACTORY_KEY; dek = FACTORY_KEY }

abbrev pub first_host : Host
first_host = record { channel = Basic; keys = Aes128 factory_trio; tokens = Absent; sessions = no_host_sessions; last = None }

-- with other sessions
abbrev pub with_sessions : Sessions → Host → Host
with_sessions sessions host =
    record { channel = host.channel; keys = host.keys; tokens = host.tokens; sessions = sessions; last = host.last }

-- its session of its channel
abbrev pub own_session : Host → Option Session
own_session host = session_of host.channel host.sessions

-- with this session, or none, of its channel
abbrev pub with_own : Option Session → Host → Host
with_own session host = with_sessions (with_session host.channel session host.sessions) host

-- after power off and on: the keys, the tokens and the status stay
abbrev pub after_reset : Host → Host
after_reset host = record { channel = Basic; keys = host.keys; tokens = host.tokens; sessions = no_host_sessions; last = host.last }

-- with another channel, other keys, other tokens, or another status
abbrev pub host_on_channel : Channel → Host → Host
host_on_channel channel host =
    record { channel = channel; keys = host.keys; tokens = host.tokens; sessions = host.sessions; last = host.last }

abbrev pub with_host_keys : OfSize (Trio 16) (Trio 24) (Trio 32) → Host → Host
with_host_keys keys host = record { channel = host.channel; keys = keys; tokens = host.tokens; sessions = host.sessions; last = host.last }

abbrev pub with_tokens : Tokens → Host → Host
with_tokens tokens host =
    record { channel = host.channel; keys = host.keys; tokens = tokens; sessions = host.sessions; last = host.last }

abbrev pub with_last : Option Status → Host → Host
with_last last host = record { channel = host.channel; keys = host.keys; tokens = host.tokens; sessions = host.sessions; last = last }
