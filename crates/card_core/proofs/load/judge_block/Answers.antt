use Rattle.std.proofs.Common.{None, Some, sym, subst}
use Rattle.policy_machine.proofs.FirstLike.{handed_on}
use Rattle.card_core.specs.Prelude.{IsFirst, LoadFails, load_rules}
use Rattle.policy_machine.specs.declared.load.RuleLO.{RuleLO}
use Rattle.policy_machine.specs.declared.rule.Rule.TheVariants.{LO}
use Rattle.card_core.proofs.LoadJudged.{decided, for_last, passed_more, refused_for}
use Rattle.card_core.proofs.load.judge_block.Goals as goal

-- the block is not taken
pub returns-in-Err-clause-refused : goal.returns-in-Err-clause-refused
returns-in-Err-clause-refused c page admitted is_for =
    subst (λ (rule : RuleLO). IsFirst (LoadFails admitted) load_rules (Some (LO rule))) (sym c.rule_of.ensures)
    (refused_for page c.args.tables.now c.args.session.now c.args.name.now c.args.domain c.args.request.now admitted is_for c.judge_block.result c.judge_block.ensures.stop
    c.in-Err.stop c.in-Err.is)

-- more come
pub returns-then-not-request-clause-passed : goal.returns-then-not-request-clause-passed
returns-then-not-request-clause-passed c page admitted is_for =
    passed_more page c.args.tables.now c.args.session.now c.args.name.now c.args.domain c.args.request.now admitted is_for c.judge_block.result c.judge_block.ensures.stop
    c.in-Ok.taken c.in-Ok.is c.if-not-request.true

-- it is the last one
pub returns-in_err-receipter-clause-refused : goal.returns-in_err-receipter-clause-refused
returns-in_err-receipter-clause-refused c page admitted is_for =
    let last = for_last page c.args.tables.now c.args.session.now c.args.name.now c.args.domain c.args.request.now admitted is_for c.if-not-request.false in
    let rule = c.in_err-receipter.field-0.0 in
    handed_on (λ rule. IsFirst (LoadFails admitted) load_rules (Some rule)) c.from_residual.result rule c.from_residual.ensures.1
    (decided page c.args.tables.now c.args.session.now c.args.name.now c.args.domain c.args.request.now admitted is_for c.judge_block.result c.judge_block.ensures.stop
    c.in-Ok.taken c.in-Ok.is (Some rule) (c.in_err-receipter.ensures.refused page admitted is_for.acts last))

pub returns-clause-passed : goal.returns-clause-passed
returns-clause-passed c page admitted is_for =
    let last = for_last page c.args.tables.now c.args.session.now c.args.name.now c.args.domain c.args.request.now admitted is_for c.if-not-request.false in
    decided page c.args.tables.now c.args.session.now c.args.name.now c.args.domain c.args.request.now admitted is_for c.judge_block.result c.judge_block.ensures.stop
    c.in-Ok.taken c.in-Ok.is None (c.in_ok-receipter.ensures.passed page admitted is_for.acts last)

pub returns-clause-receipter : goal.returns-clause-receipter
returns-clause-receipter c page admitted acts last = c.in_ok-receipter.ensures.receipter page admitted acts
