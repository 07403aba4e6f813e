use Rattle.std.proofs.Common.{[], ◌∷◌}
use Rattle.std.proofs.lemmas.Bool.{iff_false}
use Rattle.policy_machine.specs.declared.card_status.RuleSC.TheVariants.{SC1, SC2}
use Rattle.policy_machine.specs.declared.rule.Rule.TheVariants.{SC}
use Rattle.policy_rules.specs.Prelude.{command_form, managed_card_status}
use Rattle.policy_rules.proofs.CardStatusJudging.{barred_first, codeless_first, of_card, step_passes, stepless_first}
use Rattle.policy_slots.proofs.ManagementFirst.{setting_handed}
use Rattle.policy_rules.proofs.card_status.judge_card_status.Goals as goal

pub returns-in_err-judge_setting-clause-refused : goal.returns-in_err-judge_setting-clause-refused
returns-in_err-judge_setting-clause-refused c page admitted acts is =
    setting_handed ((command_form managed_card_status).fails admitted) (SC SC1 ∷ SC SC2 ∷ []) c.from_residual.result c.in_err-judge_setting.field-0.0 c.from_residual.ensures.1
    (c.in_err-judge_setting.ensures.refused page admitted acts (of_card c.args.code admitted.command is))

pub returns-in_default-clause-refused : goal.returns-in_default-clause-refused
returns-in_default-clause-refused c page admitted acts is =
    codeless_first page c.args.tables.now c.args.domain admitted acts c.args.code is
    (c.in_ok-judge_setting.ensures.passed page admitted acts (of_card c.args.code admitted.command is)) c.in_default.ensures.none

pub returns-in_default-step_between-clause-refused : goal.returns-in_default-step_between-clause-refused
returns-in_default-step_between-clause-refused c page admitted acts is =
    stepless_first page c.args.tables.now c.args.domain admitted acts c.args.code is
    (c.in_ok-judge_setting.ensures.passed page admitted acts (of_card c.args.code admitted.command is)) c.in-Some.life c.in-Some.ensures.some
    c.in_default-step_between.ensures.none

pub returns-then-not-may_step-clause-refused : goal.returns-then-not-may_step-clause-refused
returns-then-not-may_step-clause-refused c page admitted acts is =
    barred_first page c.args.tables.now c.args.domain admitted acts c.args.code is
    (c.in_ok-judge_setting.ensures.passed page admitted acts (of_card c.args.code admitted.command is)) c.in-Some.life c.in-Some.ensures.some
    c.in-Some-step_between.step c.in-Some-step_between.ensures.some (iff_false (c.may_step.ensures page admitted acts) c.if-not-may_step.true)

pub returns-clause-passed : goal.returns-clause-passed
returns-clause-passed c page admitted acts is =
    step_passes page c.args.tables.now c.args.domain admitted acts c.args.code is
    (c.in_ok-judge_setting.ensures.passed page admitted acts (of_card c.args.code admitted.command is)) c.in-Some.life c.in-Some.ensures.some
    c.in-Some-step_between.step c.in-Some-step_between.ensures.some ((c.may_step.ensures page admitted acts).0 c.if-not-may_step.false)
