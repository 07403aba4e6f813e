use Rattle.std.proofs.Common.{inr, inl, refl, subst, sym, ◌∙◌}
use Rattle.std.proofs.lemmas.Bool.{iff_false}
use Rattle.policy_slots.specs.Prelude.{Admitted, IsBroughtFor}
use Rattle.policy_slots.proofs.ReceiptPasses.{receipt_passes}
use Rattle.policy_slots.proofs.RequestJudging.{by_receipt, by_token, receipted_so, undelegated, unreceipted}
use Rattle.policy_slots.proofs.judged_request.judge_approval.Given.{Over}
use Rattle.policy_slots.proofs.judged_request.judge_approval.Goals as goal
use Rattle.policy_slots.proofs.judged_request.judge_approval.Goals.{After-approving-approval}

-- what the request brings is what its command does
brought : (g : Over) (c : After-approving-approval g) (admitted : Admitted) (is : g.M.JudgedRequest.reads c.args.request.now admitted.command)
    → IsBroughtFor g.M.JudgedRequest.form admitted.command (g.M.JudgedRequest.asked c.args.request.now admitted.command is) c.approving-approval.result.signed
brought g c admitted is =
    subst (IsBroughtFor g.M.JudgedRequest.form admitted.command _) (sym c.approving-approval.ensures.signed) (g.met.M.JudgedRequest.meant c.args.request.now admitted.command is)

pub returns-then-not-approval-clause-passed : goal.returns-then-not-approval-clause-passed
returns-then-not-approval-clause-passed g c page admitted acts is =
    undelegated _ _ g.met.M.JudgedRequest.lawful admitted _ (iff_false (c.approving-approval.ensures.delegated page admitted acts) c.if-not-approval.true)

pub returns-then-not-approval-clause-receipter : goal.returns-then-not-approval-clause-receipter
returns-then-not-approval-clause-receipter g c page admitted acts some = inr (iff_false (c.approving-approval.ensures.delegated page admitted acts) c.if-not-approval.true, refl)

pub returns-in-Err-clause-refused : goal.returns-in-Err-clause-refused
returns-in-Err-clause-refused g c page admitted acts is =
    let meant = brought g (goal.at.returns-in-Err-clause-refused g c).After-approving-approval admitted is in
    by_token _ _ g.met.M.JudgedRequest.lawful admitted _ ((c.approving-approval.ensures.delegated page admitted acts).0 c.if-not-approval.false) _ meant
    c.in-Err.rule (c.in-Err.ensures.refused page admitted acts meant.parameters)

pub returns-then-not-approval-2-clause-passed : goal.returns-then-not-approval-2-clause-passed
returns-then-not-approval-2-clause-passed g c page admitted acts is =
    let meant = brought g (goal.at.returns-then-not-approval-2-clause-passed g c).After-approving-approval admitted is in
    unreceipted _ _ g.met.M.JudgedRequest.lawful admitted _ ((c.approving-approval.ensures.delegated page admitted acts).0 c.if-not-approval.false) _ meant
    (c.in_default.ensures.passed page admitted acts meant.parameters) (sym c.approving-approval.ensures.receipted ∙ c.if-not-approval-2.true)

pub returns-in-Ok-clause-passed : goal.returns-in-Ok-clause-passed
returns-in-Ok-clause-passed g c page admitted acts is =
    let meant = brought g (goal.at.returns-in-Ok-clause-passed g c).After-approving-approval admitted is in
    receipted_so _ _ g.met.M.JudgedRequest.lawful admitted _ ((c.approving-approval.ensures.delegated page admitted acts).0 c.if-not-approval.false) _ meant
    (c.in_default.ensures.passed page admitted acts meant.parameters)
    (receipt_passes page c.args.tables.now c.args.domain admitted acts c.in-Ok.found (c.in-Ok.ensures.found page admitted acts))

pub returns-in-Ok-clause-receipter : goal.returns-in-Ok-clause-receipter
returns-in-Ok-clause-receipter g c page admitted acts some =
    inl ((c.approving-approval.ensures.delegated page admitted acts).0 c.if-not-approval.false, c.in-Ok.ensures.found page admitted acts)

pub returns-in-Err-judge_receipt-clause-refused : goal.returns-in-Err-judge_receipt-clause-refused
returns-in-Err-judge_receipt-clause-refused g c page admitted acts is =
    let meant = brought g (goal.at.returns-in-Err-judge_receipt-clause-refused g c).After-approving-approval admitted is in
    by_receipt _ _ g.met.M.JudgedRequest.lawful admitted _ ((c.approving-approval.ensures.delegated page admitted acts).0 c.if-not-approval.false) _ meant
    (c.in_default.ensures.passed page admitted acts meant.parameters) (sym c.approving-approval.ensures.receipted ∙ c.if-not-approval-2.false)
    c.in-Err-judge_receipt.rule (c.in-Err-judge_receipt.ensures.refused page admitted acts)
