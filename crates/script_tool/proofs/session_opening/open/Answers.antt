use Rattle.std.proofs.Common.{List, None, subst, sym, ℕ}
use Rattle.script_tool.proofs.HostRules.{own_taken}
use Rattle.script_tool.proofs.Opened.{not_updated, others_played, plays_on, update_sent, updated_leads}
use Rattle.script_tool.specs.Host.{with_own}
use Rattle.script_tool.specs.InPlain.{send_in_plain}
use Rattle.script_tool.specs.Kept.{printed_of}
use Rattle.script_tool.specs.Opening.{after_update, with_field}
use Rattle.script_tool.specs.Played.{ContinuesWith, IsPlayed, Plays}
use Rattle.script_tool.specs.Printed.{Reply}
use Rattle.script_tool.specs.Talk.{Talk}
use Rattle.script_tool.specs.declared.printout.Printout.{Printout}
use Rattle.script_tool.proofs.session_opening.open.Goals as goal

pub returns-then-eq-clause-played : goal.returns-then-eq-clause-played
returns-then-eq-clause-played g c whole represents =
    let o = c.args.opening.now in
    let link = g.L.CardLink in
    let talk = send_in_plain whole c.write_update.new.out.items (after_update o) in
    let x = subst (λ (p : Printout). ContinuesWith link c.args.link.now c.send_plain.new.link talk (after_update o) c.args.host.now (printed_of p)) c.in-Reply.is
    (c.in_ok-other.ensures.goes_on c.args.host.now whole (after_update o) represents) in
    let leads = updated_leads link c.args.link.now c.send_plain.new.link talk o c.in-Reply.field.items c.in-Reply.status.0 x.0 x.1 (sym c.if-eq.ensures) in
    let later = c.answer_update.ensures.played (with_own None x.0) (own_taken c.args.host.now x.0 c.end.new.self x.2 c.end.ensures) in
    let answer = subst (λ (f : List ℕ). Plays link c.send_plain.new.link c.answer_update.new.link (with_field (with_own None x.0) o f) c.answer_update.new.host c.answer_update.result)
    c.deref.ensures.0 later in
    subst (λ (t : Talk). Plays link c.args.link.now c.answer_update.new.link t c.answer_update.new.host c.answer_update.result)
    (update_sent c.args.host.now whole o c.write_update.new.out.items represents c.write_update.ensures)
    (plays_on link c.args.link.now c.send_plain.new.link c.answer_update.new.link talk (with_field (with_own None x.0) o c.in-Reply.field.items)
    c.answer_update.new.host c.answer_update.result leads answer)

pub returns-else-eq-clause-played : goal.returns-else-eq-clause-played
returns-else-eq-clause-played g c whole represents =
    let o = c.args.opening.now in
    let link = g.L.CardLink in
    let talk = send_in_plain whole c.write_update.new.out.items (after_update o) in
    let x = subst (λ (p : Printout). ContinuesWith link c.args.link.now c.send_plain.new.link talk (after_update o) c.args.host.now (printed_of p)) c.in-Reply.is
    (c.in_ok-other.ensures.goes_on c.args.host.now whole (after_update o) represents) in
    subst (λ (t : Talk). IsPlayed link c.args.link.now c.send_plain.new.link t (Reply c.new.result.items c.in-Reply.status.0) c.args.host.now)
    (update_sent c.args.host.now whole o c.write_update.new.out.items represents c.write_update.ensures)
    (not_updated link c.args.link.now c.send_plain.new.link talk o c.in-Reply.field.items c.new.result.items c.in-Reply.status.0 c.args.host.now
    x (sym c.if-eq.ensures) c.new.ensures)

pub returns-in_default : goal.returns-in_default
returns-in_default g c = record {
  played = λ whole represents.
      (let o = c.args.opening.now in
      let link = g.L.CardLink in
      subst (λ (t : Talk). IsPlayed link c.args.link.now c.send_plain.new.link t (printed_of c.in_ok-other.other) c.args.host.now)
      (update_sent c.args.host.now whole o c.write_update.new.out.items represents c.write_update.ensures)
      (others_played link c.args.link.now c.send_plain.new.link (send_in_plain whole c.write_update.new.out.items (after_update o)) (after_update o) c.args.host.now
      c.in_ok-other.other c.in_default.not-Reply (c.in_ok-other.ensures.goes_on c.args.host.now whole (after_update o) represents)));
  up = c.in_ok-other.ensures.up;
  cause = c.in_ok-other.ensures.cause;
}
