use Rattle.std.proofs.Common.{[], ◌∷◌, refl, ◌∙◌, inl, inr}
use Rattle.std.proofs.lemmas.Bool.{iff_false}
use Rattle.policy_rules.specs.Prelude.{command_form, managed_delete_key}
use Rattle.policy_machine.specs.declared.delete_key.RuleDK.TheVariants.{DK1, DK2}
use Rattle.policy_machine.specs.declared.rule.Rule.TheVariants.{DK}
use Rattle.policy_machine.proofs.Judging.{err_judged}
use Rattle.policy_rules.proofs.DeleteKeyJudging.{acting_has_version, known_passes, refused_first, none_first}
use Rattle.policy_slots.proofs.ManagementFirst.{management_handed}
use Rattle.policy_rules.proofs.delete_key.judge_delete_key.Goals as goal
use Rattle.policy_rules.proofs.delete_key.judge_delete_key.Goals.{then-not-has_version-via-then-not-has_version, then-not-has_version-via-else-not-has_version+then-names_part}

pub returns-in_err-judge_management-clause-refused : goal.returns-in_err-judge_management-clause-refused
returns-in_err-judge_management-clause-refused c page admitted acts request =
    err_judged (command_form managed_delete_key) (λ holds is. inl is) admitted request.form refl c.from_residual.result
    (management_handed ((command_form managed_delete_key).fails admitted) (DK DK1 ∷ DK DK2 ∷ []) c.from_residual.result c.in_err-judge_management.field-0.0 c.from_residual.ensures.1
    (c.in_err-judge_management.ensures.refused page admitted acts))

pub returns-then-not-has_version-clause-refused : goal.returns-then-not-has_version-clause-refused
returns-then-not-has_version-clause-refused c page admitted acts request =
    let known =
    acting_has_version page c.args.tables.now c.args.domain admitted acts c.args.version c.deref.result.now c.has_version.result c.deref.ensures.value c.has_version.ensures in
    refused_first admitted c.args.version c.args.identifier request (c.in_ok-judge_management.ensures.passed page admitted acts) DK1 (inl (
      (elim c.then-not-has_version.branch [
        | then-not-has_version-via-then-not-has_version w ↦ inl (known ∙ w.if-not-has_version.true)
        | then-not-has_version-via-else-not-has_version+then-names_part w ↦ inr (w.names_part.ensures.0 w.if-names_part.true)
      ]),
      refl,
    ))

pub returns-then-is_last_set-clause-refused : goal.returns-then-is_last_set-clause-refused
returns-then-is_last_set-clause-refused c page admitted acts request =
    let known =
    acting_has_version page c.args.tables.now c.args.domain admitted acts c.args.version c.deref.result.now c.has_version.result c.deref.ensures.value c.has_version.ensures in
    refused_first admitted c.args.version c.args.identifier request (c.in_ok-judge_management.ensures.passed page admitted acts) DK2 (inr (
      known_passes admitted c.args.version c.args.identifier (known ∙ c.if-not-has_version.false) (iff_false c.names_part.ensures c.if-names_part.false),
      inl ((c.is_last_set.ensures page admitted acts).0 c.if-is_last_set.true, refl),
    ))

pub returns-clause-passed : goal.returns-clause-passed
returns-clause-passed c page admitted acts request =
    let known =
    acting_has_version page c.args.tables.now c.args.domain admitted acts c.args.version c.deref.result.now c.has_version.result c.deref.ensures.value c.has_version.ensures in
    none_first admitted c.args.version c.args.identifier request (c.in_ok-judge_management.ensures.passed page admitted acts) (inr (
      known_passes admitted c.args.version c.args.identifier (known ∙ c.if-not-has_version.false) (iff_false c.names_part.ensures c.if-names_part.false),
      inr (iff_false (c.is_last_set.ensures page admitted acts) c.if-is_last_set.false, refl),
    ))
