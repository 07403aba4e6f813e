use Rattle.std.proofs.Common.{sym, subst}
use Rattle.script_tool.proofs.Opened.{accepted_played, others_played, refused_played}
use Rattle.script_tool.specs.InPlain.{send_in_plain}
use Rattle.script_tool.specs.Kept.{printed_of}
use Rattle.script_tool.specs.Opening.{after_authenticate}
use Rattle.script_tool.specs.Played.{ContinuesWith, IsPlayed}
use Rattle.script_tool.specs.Printed.{Opened}
use Rattle.script_tool.specs.declared.host_state.HostState.{HostState}
use Rattle.script_tool.specs.declared.printout.Printout.{Printout}
use Rattle.script_tool.proofs.session_opening.authenticate.Goals.{then-eq, else-eq}
use Rattle.script_tool.proofs.session_opening.authenticate.Goals as goal

pub returns-after-eq-clause-played : goal.returns-after-eq-clause-played
returns-after-eq-clause-played g c whole o offer represents session =
    let rest = after_authenticate o offer c.args.counter in
    let talk = send_in_plain whole c.args.wire.now.sent.items rest in
    let x = subst (λ (p : Printout). ContinuesWith g.L.CardLink c.args.link.now c.send_plain.new.link talk rest c.args.host.now (printed_of p)) c.in-Reply.is
    (c.in_ok-other.ensures.goes_on c.args.host.now whole rest represents) in
    let status = c.in-Reply.status.0 in
    let end = λ (kept : HostState). IsPlayed g.L.CardLink c.args.link.now c.send_plain.new.link talk (Opened c.args.counter status) kept in
    elim c.if-eq.branch [
      | then-eq w ↦
          subst end (sym w.host-is)
          (accepted_played g.L.CardLink c.args.link.now c.send_plain.new.link talk o offer c.args.counter c.in-Reply.field-0.items status
          c.args.host.now c.args.session w.put.new.self x session (sym w.if-eq.ensures) w.put.ensures)
      | else-eq w ↦
          subst end (sym w.host-is)
          (refused_played g.L.CardLink c.args.link.now c.send_plain.new.link talk o offer c.args.counter c.in-Reply.field-0.items status
          c.args.host.now x (sym w.if-eq.ensures))
    ]

pub returns-in_default : goal.returns-in_default
returns-in_default g c = record {
  played = λ whole o offer represents session.
      (let rest = after_authenticate o offer c.args.counter in
      others_played g.L.CardLink c.args.link.now c.send_plain.new.link (send_in_plain whole c.args.wire.now.sent.items rest) rest c.args.host.now c.in_ok-other.other
      c.in_default.not-Reply (c.in_ok-other.ensures.goes_on c.args.host.now whole rest represents));
  up = c.in_ok-other.ensures.up;
  cause = c.in_ok-other.ensures.cause;
}
