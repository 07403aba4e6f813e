use Rattle.std.proofs.Common.{None, Some}
use Rattle.std.specs.Prelude.{map}
use Rattle.content_rules.specs.Prelude.{LoadFails, number_rules}
use Rattle.policy_machine.specs.declared.rule.Rule.TheVariants.{LO}
use Rattle.content_rules.proofs.LoadJudging.{number_decides}
use Rattle.policy_slots.proofs.ManagementFirst.{management_handed}
use Rattle.content_rules.proofs.load.judge_load.Goals as goal

pub returns-in_err-judge_management-clause-refused : goal.returns-in_err-judge_management-clause-refused
returns-in_err-judge_management-clause-refused c page admitted acts is_for is =
    management_handed (LoadFails admitted) (map LO number_rules) c.from_residual.result c.in_err-judge_management.field-0.0 c.from_residual.ensures.1
    (c.in_err-judge_management.ensures.refused page admitted acts)

pub returns-in-Ok-clause-passed : goal.returns-in-Ok-clause-passed
returns-in-Ok-clause-passed c page admitted acts is_for is =
    number_decides admitted None (c.in_ok-judge_management.ensures.passed page admitted acts) (c.in-Ok.ensures.passed c.args.tables.now admitted is_for is.number)

pub returns-in-Err-clause-refused : goal.returns-in-Err-clause-refused
returns-in-Err-clause-refused c page admitted acts is_for is =
    number_decides admitted (Some c.in-Err.rule) (c.in_ok-judge_management.ensures.passed page admitted acts)
    (c.in-Err.ensures.refused c.args.tables.now admitted is_for is.number)
