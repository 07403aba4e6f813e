-- The sessions of a host, taken and put.
use Rattle.std.proofs.Common.{◌≡◌, Option, Some, None, refl, sym, subst, ap}
use Rattle.scp03_card.specs.Kept.{KeptSession, RepresentsSession}
use Rattle.scp03_card.specs.Session.{Session}
use Rattle.script_tool.specs.Host.{Host, Sessions, own_session, session_of, with_own, with_session, with_sessions}
use Rattle.script_tool.specs.Kept.{AreSessions, MayBeSession, RepresentsHost, kept_on, with_kept}
use Rattle.script_lines.specs.declared.channel.Channel.{Channel}
use Rattle.script_lines.specs.declared.channel.Channel.TheVariants.{Basic, First, Second, Third}
use Rattle.script_tool.specs.declared.channel_sessions.ChannelSessions.{ChannelSessions}
use Rattle.script_tool.specs.declared.host_state.HostState.{HostState}

twice : (channel : Channel) (a b : Option Session) (all : Sessions) → with_session channel a (with_session channel b all) ≡ with_session channel a all
twice Basic a b all = refl
twice _ a b all = refl

pub own_twice : (a b : Option Session) (host : Host) → with_own a (with_own b host) ≡ with_own a host
own_twice a b host = ap (λ (all : Sessions). with_sessions all host) (twice host.channel a b host.sessions)

-- what is kept on a channel is the session there
pub kept_there : (channel : Channel) (kept : ChannelSessions) (sessions : Sessions) → AreSessions kept sessions → MayBeSession (kept_on channel kept) (session_of channel sessions)
kept_there Basic kept sessions are = are.basic
kept_there First kept sessions are = are.first
kept_there Second kept sessions are = are.second
kept_there Third kept sessions are = are.third

put_there : (channel : Channel) (kept : ChannelSessions) (sessions : Sessions) (one : Option KeptSession) (session : Option Session) → AreSessions kept sessions
    → MayBeSession one session → AreSessions (with_kept channel one kept) (with_session channel session sessions)
put_there Basic kept sessions one session are is = record { basic = is; first = are.first; second = are.second; third = are.third }
put_there First kept sessions one session are is = record { basic = are.basic; first = is; second = are.second; third = are.third }
put_there Second kept sessions one session are is = record { basic = are.basic; first = are.first; second = is; third = are.third }
put_there Third kept sessions one session are is = record { basic = are.basic; first = are.first; second = are.second; third = is }

-- what is kept of a host, with another session on its channel
abbrev pub with_own_kept : Option KeptSession → HostState → HostState
with_own_kept one kept = record {
  channel = kept.channel;
  keys = kept.keys;
  tokens = kept.tokens;
  sessions = with_kept kept.channel one kept.sessions;
  last = kept.last;
}

pub represents_put : (kept : HostState) (host : Host) (one : Option KeptSession) (session : Option Session) → RepresentsHost kept host → MayBeSession one session
    → RepresentsHost (with_own_kept one kept) (with_own session host)
represents_put kept host one session r is = record {
  channel = r.channel;
  keys = r.keys;
  tokens = r.tokens;
  sessions = subst (λ (c : Channel). AreSessions (with_kept kept.channel one kept.sessions) (with_session c session host.sessions)) r.channel
      (put_there kept.channel kept.sessions host.sessions one session r.sessions is);
  last = r.last;
}

pub own_kept : (kept : HostState) (host : Host) → RepresentsHost kept host → MayBeSession (kept_on kept.channel kept.sessions) (own_session host)
own_kept kept host r =
    subst (λ (c : Channel). MayBeSession (kept_on kept.channel kept.sessions) (session_of c host.sessions)) r.channel (kept_there kept.channel kept.sessions host.sessions r.sessions)

put_gives : (channel : Channel) (session : Option Session) (all : Sessions) → session_of channel (with_session channel session all) ≡ session
put_gives Basic session all = refl
put_gives _ session all = refl

-- where the host has this session on its channel, what is kept there is it
pub own_there : (kept : HostState) (whole : Host) (session : Session) → RepresentsHost kept (with_own (Some session) whole)
    → MayBeSession (kept_on kept.channel kept.sessions) (Some session)
own_there kept whole session r =
    subst (MayBeSession (kept_on kept.channel kept.sessions)) (put_gives whole.channel (Some session) whole.sessions) (own_kept kept (with_own (Some session) whole) r)

-- where the host has none there, none is kept
pub none_kept : (kept : Option KeptSession) → MayBeSession kept None → kept ≡ None
none_kept None is = refl
none_kept (Some one) is = absurd is

-- the host with the sessions that are kept is what is kept
pub sessions_same : (kept : HostState) (host : Host) (all : ChannelSessions) → all ≡ kept.sessions → RepresentsHost kept host
    → RepresentsHost (record { channel = kept.channel; keys = kept.keys; tokens = kept.tokens; sessions = all; last = kept.last }) host
sessions_same kept host all same r =
    subst (λ (s : ChannelSessions). RepresentsHost (record { channel = kept.channel; keys = kept.keys; tokens = kept.tokens; sessions = s; last = kept.last }) host) (sym same) r

some_of : (one : KeptSession) (o : Option Session) → MayBeSession (Some one) o → (session : Session) × (o ≡ Some session) × RepresentsSession one session
some_of one None is = absurd is
some_of one (Some session) is = (session, refl, is)

-- what is taken off the host's channel is its session
pub own_some : (kept : HostState) (host : Host) (one : KeptSession) → RepresentsHost kept host → Some one ≡ kept_on kept.channel kept.sessions
    → (session : Session) × (own_session host ≡ Some session) × RepresentsSession one session
own_some kept host one r is = some_of one (own_session host) (subst (λ (o : Option KeptSession). MayBeSession o (own_session host)) (sym is) (own_kept kept host r))

-- another session, or none, on the host's channel
pub own_changed : (kept : HostState) (host : Host) (all : ChannelSessions) (one : Option KeptSession) (session : Option Session) → RepresentsHost kept host
    → all ≡ with_kept kept.channel one kept.sessions → MayBeSession one session
    → RepresentsHost (record { channel = kept.channel; keys = kept.keys; tokens = kept.tokens; sessions = all; last = kept.last }) (with_own session host)
own_changed kept host all one session r is may =
    subst (λ (s : ChannelSessions). RepresentsHost (record { channel = kept.channel; keys = kept.keys; tokens = kept.tokens; sessions = s; last = kept.last }) (with_own session host))
    (sym is) (represents_put kept host one session r may)

-- the host is left without its session
pub own_taken : (kept : HostState) (host : Host) (all : ChannelSessions) → RepresentsHost kept host → all ≡ with_kept kept.channel None kept.sessions
    → RepresentsHost (record { channel = kept.channel; keys = kept.keys; tokens = kept.tokens; sessions = all; last = kept.last }) (with_own None host)
own_taken kept host all r is = own_changed kept host all None None r is tt
