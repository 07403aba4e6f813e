use Rattle.script_tool.specs.Play.{playing_exchange}
use Rattle.script_tool.specs.Played.{Plays}
use Rattle.script_lines.specs.Send.{command_of_plain}
use Rattle.std.proofs.Common.{subst, sym, refl}
use Rattle.script_lines.specs.declared.exchange.Exchange.{Exchange}
use Rattle.script_tool.proofs.playing.play_exchange.Goals as goal

pub returns-in-Send-clause-played : goal.returns-in-Send-clause-played
returns-in-Send-clause-played g c whole represents =
    subst (λ (e : Exchange). Plays g.L.CardLink c.args.link.now c.send_one.new.link (playing_exchange whole e) c.send_one.new.host c.send_one.result) (sym c.in-Send.is)
    (c.send_one.ensures.played whole (command_of_plain c.in-Send.command) represents refl)

pub returns-in-Bad-clause-played : goal.returns-in-Bad-clause-played
returns-in-Bad-clause-played g c whole represents =
    subst (λ (e : Exchange). Plays g.L.CardLink c.args.link.now c.send_one-in-Bad.new.link (playing_exchange whole e) c.send_one-in-Bad.new.host c.send_one-in-Bad.result) (sym c.in-Bad.is)
    (c.send_one-in-Bad.ensures.played whole (command_of_plain c.in-Bad.command) represents refl)
