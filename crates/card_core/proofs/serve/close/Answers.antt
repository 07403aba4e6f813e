use Rattle.card_core.proofs.Coming.{plain_closed, protected_closed}
use Rattle.card_core.specs.Serves.{status_word}
use Rattle.card_core.proofs.serve.close.Goals as goal

pub returns-in-None-clause-closed : goal.returns-in-None-clause-closed
returns-in-None-clause-closed c =
    rw c.in-None.is (plain_closed c.args.held.now c.close_plain.new.reply.items c.args.reply.now.items (status_word c.args.served) c.close_plain.ensures.closed)

pub returns-in-Some-clause-closed : goal.returns-in-Some-clause-closed
returns-in-Some-clause-closed c =
    protected_closed c.args.opened _ c.in-Some.is c.args.held.now c.close_protected.new.reply.items c.args.reply.now.items (status_word c.args.served) c.close_protected.ensures.closed
