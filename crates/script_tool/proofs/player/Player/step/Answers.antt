use Rattle.std.proofs.Common.{Bool}
use Rattle.script_tool.specs.Kept.{printed_of}
use Rattle.script_lines.specs.declared.line.ScriptLine.{ScriptLine}
use Rattle.std.proofs.Common.{subst, ap, ◌∙◌}
use Rattle.script_lines.proofs.OneLine.{one_line}
use Rattle.std.proofs.Common.{Bool}
use Rattle.script_tool.specs.Play.{playing}
use Rattle.script_tool.specs.Printed.{printed_text}
use Rattle.script_tool.specs.Played.{IsBroken, Plays}
use Rattle.script_tool.specs.Step.{HasPlayed}
use Rattle.script_tool.proofs.player.Player.step.Goals as goal

pub returns-in-Err-clause-played : goal.returns-in-Err-clause-played
returns-in-Err-clause-played g c host said represents says =
    let played = subst (Plays g.L.CardLink c.args.link.now c.play-played.new.link (playing host c.read.new.self) c.play-played.new.host) c.in-Err.is
    (c.play-played.ensures.played host (rw (← c.self.view_is) at represents)) in
    let same = one_line c.args.line.now.text.now c.read.new.self said c.in-Some.ensures.said says in
    subst (λ (s : ScriptLine). IsBroken g.L.CardLink c.args.link.now c.play-played.new.link (playing host s)) same played

pub returns-in-Ok-clause-played : goal.returns-in-Ok-clause-played
returns-in-Ok-clause-played g c host said represents says =
    let same = one_line c.args.line.now.text.now c.read.new.self said c.in-Some.ensures.said says in
    let played = subst (Plays g.L.CardLink c.args.link.now c.play-played.new.link (playing host c.read.new.self) c.play-played.new.host) c.in-Ok.is
    (c.play-played.ensures.played host (rw (← c.self.view_is) at represents)) in
    subst (λ (s : ScriptLine). HasPlayed g.L.CardLink c.args.link.now c.play-played.new.link host s c.remember.new.self c.write.new.out.items c.kind.result) same
    (record {
      printed = printed_of c.in-Ok.printout;
      after = played.host;
      leads = played.leads;
      stands = c.remember.ensures played.host played.stands;
      text_is = c.write.ensures ∙ ap (λ (b : Bool). printed_text b (printed_of c.in-Ok.printout)) c.is_quiet.ensures;
      kind = c.kind.ensures;
    })
