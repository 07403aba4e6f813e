use Rattle.std.proofs.Common.{ℕ, List}
use Rattle.script_tool.specs.Kept.{printed_of}
use Rattle.script_tool.specs.Played.{IsReadInPlain}
use Rattle.std.proofs.Common.{subst}
use Rattle.script_tool.proofs.Plainly.{plain_continues}
use Rattle.script_tool.specs.Kept.{printed_of}
use Rattle.script_tool.specs.Played.{IsReadInPlain}
use Rattle.script_tool.proofs.in_plain.send_plain.Goals as goal

pub returns-clause-goes_on : goal.returns-clause-goes_on
returns-clause-goes_on g c host whole rest represents =
    plain_continues g.L.CardLink c.args.link.now c.transmit.new.link whole c.args.wire.now.sent.items c.transmit.new.self.reply.items rest host
    (printed_of c.plain_reply.result) c.in_ok-transmit.ensures.answered represents
    (subst (λ (r : List ℕ). IsReadInPlain r (printed_of c.plain_reply.result)) c.deref.ensures.0 c.plain_reply.ensures)
