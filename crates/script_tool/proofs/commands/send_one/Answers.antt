use Rattle.apdu_core.specs.Apdu.{Apdu, apdu_of}
use Rattle.script_tool.specs.InSession.{sending}
use Rattle.script_tool.specs.Played.{Plays}
use Rattle.std.proofs.Common.{subst, ◌∙◌}
use Rattle.script_tool.proofs.Plainly.{continues_plays}
use Rattle.script_tool.specs.InSession.{printing}
use Rattle.script_tool.proofs.commands.send_one.Goals as goal

pub returns-clause-played : goal.returns-clause-played
returns-clause-played g c whole wanted represents is =
    subst (λ (a : Apdu). Plays g.L.CardLink c.args.link.now c.send.new.link (sending c.args.bad whole a) c.send.new.host c.send.result) (c.command.ensures ∙ is)
    (continues_plays g.L.CardLink c.args.link.now c.send.new.link (sending c.args.bad whole (apdu_of c.command.result)) c.send.new.host c.send.result
    (c.send.ensures.goes_on whole printing represents))
