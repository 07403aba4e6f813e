use Rattle.std.proofs.Common.{sym}
use Rattle.std.proofs.lemmas.Bool.{eqb-false, eqb-true}
use Rattle.policy_machine.proofs.KeyFields.{last_field, none_after, none_here, none_later}
use Rattle.policy_rules.proofs.put_key.read_one.Goals as goal

pub returns-in_err-key-clause-none : goal.returns-in_err-key-clause-none
returns-in_err-key-clause-none c = rw c.from_residual.ensures (none_here 0 c.args.bytes.now c.in_err-key.ensures.none)

pub returns-then-not-is_empty-clause-none : goal.returns-then-not-is_empty-clause-none
returns-then-not-is_empty-clause-none c =
    none_later _ c.args.bytes.now c.in_ok-key.rest.now 0 c.in_ok-key.ensures.some
    (none_after c.in_ok-key.rest.now (eqb-false _ 0 (sym c.if-not-is_empty.ensures)))

pub returns-clause-some : goal.returns-clause-some
returns-clause-some c = last_field _ c.args.bytes.now _ c.in_ok-key.ensures.some (eqb-true _ 0 (sym c.if-not-is_empty.ensures))
