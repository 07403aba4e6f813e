use Rattle.std.proofs.Common.{None, Some}
use Rattle.std.specs.Prelude.{map}
use Rattle.policy_machine.specs.declared.rule.Rule.TheVariants.{SS}
use Rattle.policy_rules.specs.Prelude.{command_form, managed_entry_status}
use Rattle.policy_rules.proofs.EntryStatusJudging.{not_card, own_status_first}
use Rattle.policy_slots.proofs.ManagementFirst.{setting_handed}
use Rattle.policy_rules.proofs.entry_status.judge_entry_status.Goals as goal

pub returns-in_err-judge_setting-clause-refused : goal.returns-in_err-judge_setting-clause-refused
returns-in_err-judge_setting-clause-refused c page admitted acts is =
    setting_handed ((command_form managed_entry_status).fails admitted) (map SS managed_entry_status.judged.own.order) c.from_residual.result c.in_err-judge_setting.field-0.0 c.from_residual.ensures.1
    (c.in_err-judge_setting.ensures.refused page admitted acts (not_card c.args.request.now admitted is))

pub returns-in-Ok-clause-passed : goal.returns-in-Ok-clause-passed
returns-in-Ok-clause-passed c page admitted acts is =
    own_status_first admitted is.field (c.in_ok-judge_setting.ensures.passed page admitted acts (not_card c.args.request.now admitted is)) None
    (c.in-Ok.ensures.passed page admitted acts is)

pub returns-in-Err-clause-refused : goal.returns-in-Err-clause-refused
returns-in-Err-clause-refused c page admitted acts is =
    own_status_first admitted is.field (c.in_ok-judge_setting.ensures.passed page admitted acts (not_card c.args.request.now admitted is)) (Some c.in-Err.rule)
    (c.in-Err.ensures.refused page admitted acts is)
