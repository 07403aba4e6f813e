use Rattle.std.proofs.Common.{false}
use Rattle.script_tool.specs.InSession.{sending}
use Rattle.script_lines.specs.Store.{storing}
use Rattle.script_tool.proofs.Plainly.{continues_plays}
use Rattle.script_tool.specs.InSession.{printing}
use Rattle.script_tool.proofs.commands.store.Goals as goal

pub returns-clause-played : goal.returns-clause-played
returns-clause-played g c whole represents =
    continues_plays g.L.CardLink c.args.link.now c.send.new.link (sending false whole (storing c.args.field.now)) c.send.new.host c.send.result
    (c.send.ensures.goes_on whole printing represents)
