use Rattle.std.proofs.Common.{rules, ◌≡◌, Some, Result, Ok, Err, sym, ap, subst, ◌∙◌}
use Rattle.std.specs.Prelude.{IfErr, IfOk}
use Rattle.card_core.specs.Prelude.{Apdu, Decodes, IsMalformed, IsOffered, IsRequestOf, Judges, Takes, apdu_of, form_in}
use Rattle.policy_machine.proofs.ExternalAuthenticateLaws.{begin_passes, unoffered_judged}
use Rattle.policy_machine.proofs.FirstLike.{handed_on}
use Rattle.policy_machine.proofs.Judging.{malformed_judged}
use Rattle.policy_machine.specs.declared.external_authenticate.RuleEA.TheVariants.{EA1}
use Rattle.policy_machine.specs.declared.instruction.TheConstants.{EXTERNAL_AUTHENTICATE}
use Rattle.policy_machine.specs.declared.rule.Rule.{Rule}
use Rattle.policy_machine.specs.declared.rule.Rule.TheVariants.{EA}
use Rattle.policy_rules.specs.declared.request.Request.{Request}
use Rattle.card_core.proofs.Offered.{is_offer, no_offer}
use Rattle.card_core.proofs.read_request.read_request.Goals as goal

pub returns-in_err-judge_offer-clause-refused : goal.returns-in_err-judge_offer-clause-refused
returns-in_err-judge_offer-clause-refused c admitted holds is =
    let refused : IfErr c.judge_offer.result (λ rule. (rule ≡ EA EA1) × (c.args.command.now.ins ≡ EXTERNAL_AUTHENTICATE) × (IsOffered c.args.held.now → ⊥)) = c.judge_offer.ensures.refused in
    let found = subst (λ r. IfErr r (λ rule. (rule ≡ EA EA1) × (c.args.command.now.ins ≡ EXTERNAL_AUTHENTICATE) × (IsOffered c.args.held.now → ⊥))) c.in_err-judge_offer.was refused in
    let judges = unoffered_judged admitted (ap (λ (command : Apdu). command.ins) is ∙ found.1) (no_offer c.args.held.now admitted holds found.2) in
    handed_on (λ (rule : Rule). Judges admitted (Some rule)) c.from_residual.result c.in_err-judge_offer.field-0.0 c.from_residual.ensures.1
    (subst (λ (rule : Rule). Judges admitted (Some rule)) (sym found.0) judges)

-- a command of a wrong form
pub returns-clause-refused : goal.returns-clause-refused
returns-clause-refused c admitted holds is =
    let offered : c.args.command.now.ins ≡ EXTERNAL_AUTHENTICATE → IsOffered c.args.held.now = search rules in
    let begins = begin_passes admitted (λ ins none. is_offer c.args.held.now admitted holds (offered (sym (ap (λ (command : Apdu). command.ins) is) ∙ ins)) none) in
    by c.parse.result c.parse.ensures.refused (λ rule malformed. malformed_judged admitted rule begins
    (subst (λ (command : Apdu). IsMalformed command.ins command.p1 command.p2 command.body rule) (sym is) malformed))
  where
    by : (result : Result Request Rule) → IfErr result (IsMalformed c.args.command.now.ins c.args.command.now.p1 c.args.command.now.p2 c.args.command.now.body.now)
        → ((rule : Rule) → IsMalformed c.args.command.now.ins c.args.command.now.p1 c.args.command.now.p2 c.args.command.now.body.now rule → Judges admitted (Some rule))
        → IfErr result (λ rule. Judges admitted (Some rule))
    by (Ok request) none judges = none
    by (Err rule) malformed judges = judges rule malformed

pub returns-clause-asks : goal.returns-clause-asks
returns-clause-asks c = by c.parse.result c.parse.ensures.form c.parse.ensures.means
  where
    by : (result : Result Request Rule)
        → IfOk result (λ request. Takes (form_in request) c.args.command.now.ins c.args.command.now.p1 c.args.command.now.p2 c.args.command.now.body.now)
        → IfOk result (λ request. Decodes request c.args.command.now.p1 c.args.command.now.p2 c.args.command.now.body.now)
        → IfOk result (λ request. IsRequestOf request (apdu_of c.args.command.now))
    by (Ok request) form means = record { form = form; means = means }
    by (Err rule) form means = form
