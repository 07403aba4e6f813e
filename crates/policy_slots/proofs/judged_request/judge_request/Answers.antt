use Rattle.std.proofs.Common.{◌++◌, List, None, Some, subst, sym}
use Rattle.std.specs.Prelude.{IfErr, map}
use Rattle.policy_machine.proofs.FirstLike.{handed_on}
use Rattle.policy_machine.proofs.ManagedJudging.{approval_decides, own_refuses}
use Rattle.policy_slots.specs.Prelude.{IsFirst, JudgedFails, JudgedFirst}
use Rattle.policy_machine.specs.declared.management.RuleM.{RuleM}
use Rattle.policy_machine.specs.declared.rule.Rule.{Rule}
use Rattle.policy_machine.specs.declared.rule.Rule.TheVariants.{M}
use Rattle.policy_slots.proofs.ManagementFirst.{management_handed}
use Rattle.policy_slots.proofs.RequestJudging.{management_passes}
use Rattle.policy_slots.proofs.judged_request.judge_request.Goals as goal

pub returns-in_err-judge_management-clause-refused : goal.returns-in_err-judge_management-clause-refused
returns-in_err-judge_management-clause-refused g c page admitted acts told is =
    let form = g.M.JudgedRequest.form in
    let Fails = JudgedFails form admitted in
    subst (λ (rules : List RuleM). IfErr c.from_residual.result (λ r. IsFirst Fails (map M rules ++ map form.own.group form.own.order ++ form.delegation.rules) (Some r))) (sym g.met.M.JudgedRequest.lawful.first_rules)
    (management_handed Fails (map form.own.group form.own.order ++ form.delegation.rules) c.from_residual.result c.in_err-judge_management.field-0.0 c.from_residual.ensures.1
    (c.in_err-judge_management.ensures.refused page admitted acts))

pub returns-in_err-found-clause-refused : goal.returns-in_err-found-clause-refused
returns-in_err-found-clause-refused g c page admitted acts told is =
    let form = g.M.JudgedRequest.form in
    let judgeable = g.met.M.JudgedRequest.judgeable in
    let lawful = g.met.M.JudgedRequest.lawful in
    let meant = g.met.M.JudgedRequest.meant c.args.request.now admitted.command is in
    let refused = c.in_err-found.ensures.refused page admitted acts told is in
    handed_on (λ r. JudgedFirst form admitted (Some r)) c.from_residual-in_err-found.result c.in_err-found.field-0.0 c.from_residual-in_err-found.ensures.1
    (subst (λ (r : Rule). JudgedFirst form admitted (Some r)) refused.1
    (own_refuses form judgeable admitted _ meant.asks (management_passes form _ lawful admitted (c.in_ok-judge_management.ensures.passed page admitted acts)) refused.0 refused.2))

pub returns-in_err-receipter-clause-refused : goal.returns-in_err-receipter-clause-refused
returns-in_err-receipter-clause-refused g c page admitted acts told is =
    let form = g.M.JudgedRequest.form in
    let judgeable = g.met.M.JudgedRequest.judgeable in
    let lawful = g.met.M.JudgedRequest.lawful in
    let meant = g.met.M.JudgedRequest.meant c.args.request.now admitted.command is in
    let rule = c.in_err-receipter.field-0.0 in
    handed_on (λ r. JudgedFirst form admitted (Some r)) c.from_residual-in_err-receipter.result rule c.from_residual-in_err-receipter.ensures.1
    (approval_decides form judgeable admitted _ meant.asks (management_passes form _ lawful admitted (c.in_ok-judge_management.ensures.passed page admitted acts)) (Some rule)
    (c.in_ok-found.ensures.passed page admitted acts told is) (c.in_err-receipter.ensures.refused page admitted acts is))

pub returns-clause-passed : goal.returns-clause-passed
returns-clause-passed g c page admitted acts told is =
    let form = g.M.JudgedRequest.form in
    let judgeable = g.met.M.JudgedRequest.judgeable in
    let lawful = g.met.M.JudgedRequest.lawful in
    let meant = g.met.M.JudgedRequest.meant c.args.request.now admitted.command is in
    approval_decides form judgeable admitted _ meant.asks (management_passes form _ lawful admitted (c.in_ok-judge_management.ensures.passed page admitted acts)) None
    (c.in_ok-found.ensures.passed page admitted acts told is) (c.in_ok-receipter.ensures.passed page admitted acts is)
