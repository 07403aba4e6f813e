use Rattle.policy_machine.specs.Management.{acting}
use Rattle.content_rules.proofs.LoadNamed.{foreign_told, named_last}
use Rattle.content_rules.proofs.load.is_foreign.Goals as goal

pub returns : goal.returns
returns c page admitted acts is_for =
    foreign_told page c.args.tables.now c.args.domain admitted acts c.args.name.now is_for c.is_at_or_above.result
    (c.is_at_or_above.ensures page admitted.at.registry (acting admitted) (named_last c.args.tables.now c.args.name.now admitted is_for).load.domain acts.says acts.well)
