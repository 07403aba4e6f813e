use Rattle.std.proofs.Common.{true, false, subst}
use Rattle.policy_machine.specs.PutKey.{SaysChecks}
use Rattle.policy_rules.proofs.PutKeyJudging.{check_first, full_first, keys_pass}
use Rattle.policy_rules.proofs.put_key.judge_put_keys.Goals as goal

pub returns-then-not-checks_fit-clause-refused : goal.returns-then-not-checks_fit-clause-refused
returns-then-not-checks_fit-clause-refused c page admitted version acts request checks =
    let other : SaysChecks false admitted = subst (λ b. SaysChecks b admitted) c.if-not-checks_fit.true checks in
    check_first page c.args.tables.now c.args.domain admitted acts c.args.replaced version c.args.keys.now request other

pub returns-then-is_full-clause-refused : goal.returns-then-is_full-clause-refused
returns-then-is_full-clause-refused c page admitted version acts request checks =
    let fits : SaysChecks true admitted = subst (λ b. SaysChecks b admitted) c.if-not-checks_fit.false checks in
    let full = rw (c.deref.ensures.value, c.count.ensures.number) at c.is_full.ensures in
    full_first page c.args.tables.now c.args.domain admitted acts c.args.replaced version c.args.keys.now request fits (full.0 c.if-is_full.true)

pub returns-clause-passed : goal.returns-clause-passed
returns-clause-passed c page admitted version acts request checks =
    let fits : SaysChecks true admitted = subst (λ b. SaysChecks b admitted) c.if-not-checks_fit.false checks in
    let full = rw (c.deref.ensures.value, c.count.ensures.number) at c.is_full.ensures in
    keys_pass page c.args.tables.now c.args.domain admitted acts c.args.replaced version c.args.keys.now request fits
    (λ fails. (let is = full.1 fails in cc))
