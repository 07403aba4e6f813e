use Rattle.std.proofs.Common.{ℕ, List, None, Some, subst}
use Rattle.scp03_host.specs.Unwrapped.{Unwraps}
use Rattle.script_tool.proofs.HostRules.{own_taken, own_there, own_twice, sessions_same}
use Rattle.script_tool.proofs.Protecting.{refused_played, reply_taken}
use Rattle.script_tool.specs.Host.{with_own}
use Rattle.script_tool.specs.InSession.{awaiting}
use Rattle.script_tool.specs.Kept.{RepresentsHost}
use Rattle.script_tool.specs.Talk.{IsReplyTaken, Plain, Refused}
use Rattle.script_tool.specs.declared.host_state.HostState.{HostState}
use Rattle.script_tool.proofs.in_session.exchange.Goals as goal

pub returns-in-Ok-clause-goes_on : goal.returns-in-Ok-clause-goes_on
returns-in-Ok-clause-goes_on g c whole sent rest represents =
    let unwraps = c.in-Ok.ensures.unwrapped sent (own_there c.args.host.now whole sent represents) in (
      with_own (Some sent) whole,
      reply_taken g.L.CardLink c.args.link.now c.transmit.new.link whole sent c.args.wire.now.sent.items rest c.transmit.new.self.reply.items
          (Plain c.unwrap.new.out.items c.in-Ok.status.0) c.in_ok-transmit.ensures.answered
          (subst (λ (r : List ℕ). Unwraps sent r c.unwrap.new.out.items c.in-Ok.status.0) c.deref.ensures.0 unwraps),
      sessions_same c.args.host.now (with_own (Some sent) whole) c.unwrap.new.self c.in-Ok.ensures.stays represents,
    )

pub returns-in-Err-clause-goes_on : goal.returns-in-Err-clause-goes_on
returns-in-Err-clause-goes_on g c whole sent rest represents =
    let host = c.args.host.now in
    let left : HostState = record { channel = host.channel; keys = host.keys; tokens = host.tokens; sessions = c.unwrap.new.self; last = host.last } in
    let refuses = c.in-Err.ensures.refused sent (own_there host whole sent represents) in
    let leads = reply_taken g.L.CardLink c.args.link.now c.transmit.new.link whole sent c.args.wire.now.sent.items rest c.transmit.new.self.reply.items
    (Refused refuses.0) c.in_ok-transmit.ensures.answered (subst (λ (r : List ℕ). IsReplyTaken sent r (Refused refuses.0)) c.deref.ensures.0 refuses.2) in
    let ended = subst (RepresentsHost left) (own_twice None (Some sent) whole) (own_taken host (with_own (Some sent) whole) c.unwrap.new.self represents c.in-Err.ensures.ended) in
    refused_played g.L.CardLink c.args.link.now c.transmit.new.link (awaiting whole sent c.args.wire.now.sent.items rest) left whole sent rest refuses.0
    c.in-Err.word refuses.1 ended leads
