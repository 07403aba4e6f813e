use Rattle.policy_slots.proofs.HoldsTold.{holds_told}
use Rattle.policy_rules.proofs.card_status.may_step.Goals as goal

pub returns-in-Prepare : goal.returns-in-Prepare
returns-in-Prepare c page admitted acts = rw c.in-Prepare.is (c.is_issuer_in.ensures page admitted acts)

pub returns-in-Lock : goal.returns-in-Lock
returns-in-Lock c page admitted acts =
    rw c.in-Lock.is (holds_told page c.args.tables.now c.args.domain admitted acts _ c.holds.result (rw c.deref.ensures.value at c.holds.ensures))

pub returns-in-Terminate : goal.returns-in-Terminate
returns-in-Terminate c page admitted acts =
    rw c.in-Terminate.is
    (holds_told page c.args.tables.now c.args.domain admitted acts _ c.holds-in-Terminate.result (rw c.deref-in-Terminate.ensures.value at c.holds-in-Terminate.ensures))
