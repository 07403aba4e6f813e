use Rattle.std.proofs.Common.{Option, false, subst, sym, ◌∙◌}
use Rattle.apdu_core.specs.Apdu.{Apdu, apdu_of}
use Rattle.scp03_card.specs.Session as model
use Rattle.script_tool.proofs.HostRules.{own_some}
use Rattle.script_tool.proofs.Plainly.{continues_plays}
use Rattle.script_tool.proofs.Protecting.{own_goes}
use Rattle.script_tool.specs.InSession.{printing, protecting, with_some}
use Rattle.script_tool.specs.Play.{playing_put_key}
use Rattle.script_tool.specs.Played.{Continues}
use Rattle.script_lines.specs.PutKey.{putting_keys}
use Rattle.script_tool.proofs.commands.put_key.Goals as goal

pub returns-clause-played : goal.returns-clause-played
returns-clause-played g c whole represents =
    let one = own_some c.args.host.now whole c.in-Some.session represents (sym c.in-Some.is ∙ c.on.ensures) in
    let sends = λ (command : Apdu) (kept : model.Session). protecting whole kept false command printing in
    let go = λ (kept : model.Session). protecting whole kept false (putting_keys kept.offer.dek c.args.putting.now) printing in
    let continues = own_goes g.L.CardLink c.args.link.now c.send.new.link whole one.0 (sends (apdu_of c.command.result)) printing c.send.new.host c.send.result one.1
    (c.send.ensures.goes_on whole printing represents) in
    continues_plays g.L.CardLink c.args.link.now c.send.new.link (playing_put_key whole c.args.putting.now) c.send.new.host c.send.result
    (subst (λ (o : Option model.Session). Continues g.L.CardLink c.args.link.now c.send.new.link (with_some o whole go) printing c.send.new.host c.send.result) (sym one.1)
    (subst (λ (a : Apdu). Continues g.L.CardLink c.args.link.now c.send.new.link (sends a one.0) printing c.send.new.host c.send.result)
    (c.command.ensures ∙ c.put_key-command.ensures one.0 one.2) continues))
