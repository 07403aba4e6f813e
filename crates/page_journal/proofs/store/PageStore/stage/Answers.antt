use Rattle.page_journal.proofs.Stages.{with_store}
use Rattle.page_journal.proofs.store.PageStore.stage.Goals as goal

pub invariant_of-self : goal.invariant_of-self
invariant_of-self g c = (with_store c.self.inside.pool c.args.page c.args.from.now c.requires.range c.self.invariant.0, c.self.invariant.1, c.self.invariant.2)
