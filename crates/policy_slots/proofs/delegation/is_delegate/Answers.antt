use Rattle.policy_slots.proofs.HoldsTold.{holds_told}
use Rattle.policy_slots.proofs.delegation.is_delegate.Goals as goal

pub returns : goal.returns
returns c page admitted acts = holds_told page c.args.tables.now c.args.domain admitted acts _ c.holds.result (rw c.deref.ensures.value at c.holds.ensures)
