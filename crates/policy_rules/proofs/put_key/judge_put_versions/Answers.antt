use Rattle.std.proofs.Common.{[], ◌∷◌}
use Rattle.policy_machine.specs.declared.put_key.RulePK.TheVariants.{PK1, PK2}
use Rattle.policy_machine.specs.declared.rule.Rule.TheVariants.{PK}
use Rattle.policy_rules.specs.Prelude.{command_form, managed_put_key}
use Rattle.policy_rules.proofs.PutKeyJudging.{taken_first, unknown_first, versions_pass}
use Rattle.policy_slots.proofs.ManagementFirst.{management_handed}
use Rattle.policy_rules.proofs.put_key.judge_put_versions.Goals as goal

pub returns-in_err-judge_management-clause-refused : goal.returns-in_err-judge_management-clause-refused
returns-in_err-judge_management-clause-refused c page admitted keys acts request =
    management_handed ((command_form managed_put_key).fails admitted) (PK PK1 ∷ PK PK2 ∷ []) c.from_residual.result c.in_err-judge_management.field-0.0 c.from_residual.ensures.1
    (c.in_err-judge_management.ensures.refused page admitted acts)

pub returns-then-lacks_replaced-clause-refused : goal.returns-then-lacks_replaced-clause-refused
returns-then-lacks_replaced-clause-refused c page admitted keys acts request =
    let passed = c.in_ok-judge_management.ensures.passed page admitted acts in
    let fails = (rw c.deref.ensures.value at c.lacks_replaced.ensures).0 c.if-lacks_replaced.true in
    unknown_first page c.args.tables.now c.args.domain admitted acts c.args.replaced c.args.version keys request passed.0 passed.1 fails

pub returns-then-is_taken-clause-refused : goal.returns-then-is_taken-clause-refused
returns-then-is_taken-clause-refused c page admitted keys acts request =
    let passed = c.in_ok-judge_management.ensures.passed page admitted acts in
    let known = rw c.deref.ensures.value at c.lacks_replaced.ensures in
    let fails = (rw c.deref-2.ensures.value at c.is_taken.ensures).0 c.if-is_taken.true in
    taken_first page c.args.tables.now c.args.domain admitted acts c.args.replaced c.args.version keys request passed.0 passed.1
    (λ lacks. (let is = known.1 lacks in cc)) fails

pub returns-clause-passed : goal.returns-clause-passed
returns-clause-passed c page admitted keys acts request =
    let passed = c.in_ok-judge_management.ensures.passed page admitted acts in
    let known = rw c.deref.ensures.value at c.lacks_replaced.ensures in
    let free = rw c.deref-2.ensures.value at c.is_taken.ensures in
    versions_pass page c.args.tables.now c.args.domain admitted acts c.args.replaced c.args.version keys request passed.0 passed.1
    (λ lacks. (let is = known.1 lacks in cc)) (λ taken. (let is = free.1 taken in cc))
