use Rattle.std.proofs.Common.{refl}
use Rattle.policy_machine.proofs.DeleteForms.{deletion_malformed}
use Rattle.policy_rules.proofs.delete.parse_delete.Goals as goal

pub returns-in-Err-parse_request : goal.returns-in-Err-parse_request
returns-in-Err-parse_request c =
    deletion_malformed c.args.p1 c.args.p2 c.args.body.now c.in-Err.field-0 c.in-Err-parse_request.rule c.in-Err.ensures.refused
    c.in-Err-parse_request.ensures.refused

pub returns-in-Ok : goal.returns-in-Ok
returns-in-Ok c =
    let means = c.in-Ok.ensures.means in
    ((refl, c.in-Ok.ensures.form, (record { version = c.in-Ok.version; identifier = c.in-Ok.identifier }, means)), means)
