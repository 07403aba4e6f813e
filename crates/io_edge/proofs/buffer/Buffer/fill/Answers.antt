use Rattle.io_edge.proofs.buffer.Buffer.fill.Goals as goal

pub returns-clause-count : goal.returns-clause-count
returns-clause-count g c = rw (← c.self.view_is, ← c.settle.ensures.held) c.read_on.ensures.count
