use Rattle.content_rules.specs.Prelude.{first_four}
use Rattle.policy_machine.proofs.LengthFields.{before_more, more_fields, no_data, none_later}
use Rattle.content_rules.proofs.install_fields.read_fields.Goals as goal

pub returns-in_err-fields-clause-none : goal.returns-in_err-fields-clause-none
returns-in_err-fields-clause-none c =
    rw c.from_residual-in_err-fields.ensures
    (no_data c.args.body.now (none_later _ _ _ 5 c.in_ok-first.ensures.some c.in_err-fields.ensures.none))

pub returns-clause-some : goal.returns-clause-some
returns-clause-some c = more_fields _ _ _ _ c.in_ok-first.ensures.some c.in_ok-fields.ensures.some

pub returns-clause-before : goal.returns-clause-before
returns-clause-before c =
    c.front.ensures.before _ (before_more _ (first_four c.in_ok-fields.fields) _ _ _ c.in_ok-first.ensures.some c.in_ok-fields.ensures.before)
