use Rattle.std.proofs.Common.{[], ◌∷◌, None, Some, inl, refl, arith}
use Rattle.policy_machine.proofs.Judging.{err_judged}
use Rattle.policy_rules.specs.Prelude.{command_form, managed_store_data}
use Rattle.policy_machine.specs.declared.rule.Rule.TheVariants.{SD}
use Rattle.policy_machine.specs.declared.store_data.RuleSD.TheVariants.{SD1}
use Rattle.policy_rules.proofs.StoreDataJudging.{full_first, none_first, store_judged}
use Rattle.policy_slots.proofs.ManagementFirst.{management_handed}
use Rattle.policy_rules.proofs.store_data.judge_store_data.Goals as goal

pub returns-in_err-judge_management-clause-refused : goal.returns-in_err-judge_management-clause-refused
returns-in_err-judge_management-clause-refused c page admitted acts request =
    err_judged (command_form managed_store_data) (λ holds is. inl is) admitted request.form refl c.from_residual.result
    (management_handed ((command_form managed_store_data).fails admitted) (SD SD1 ∷ []) c.from_residual.result c.in_err-judge_management.field-0.0 c.from_residual.ensures.1
    (c.in_err-judge_management.ensures.refused page admitted acts))

pub returns-then-used-count_new-gt-OBJECTS-clause-refused : goal.returns-then-used-count_new-gt-OBJECTS-clause-refused
returns-then-used-count_new-gt-OBJECTS-clause-refused c page admitted acts request =
    store_judged admitted (Some (SD SD1)) request.form
    (full_first page c.args.tables.now c.args.domain admitted acts c.args.objects.now request.means request.form.2
    c.count_used-used.result c.count_new.result (rw c.deref.ensures.value at c.count_used-used.ensures.number) (rw c.deref-2.ensures.value at c.count_new.ensures.number)
    (c.in_ok-judge_management.ensures.passed page admitted acts) (omega arith))

pub returns-clause-passed : goal.returns-clause-passed
returns-clause-passed c page admitted acts request =
    store_judged admitted None request.form
    (none_first page c.args.tables.now c.args.domain admitted acts c.args.objects.now request.means request.form.2
    c.count_used-used.result c.count_new.result (rw c.deref.ensures.value at c.count_used-used.ensures.number) (rw c.deref-2.ensures.value at c.count_new.ensures.number)
    (c.in_ok-judge_management.ensures.passed page admitted acts) (omega arith))
