use Rattle.std.proofs.Common.{sym, ◌∙◌}
use Rattle.policy_slots.specs.Prelude.{approval_of, domain_aid, key_of}
use Rattle.policy_machine.proofs.Approved.{approved, unfitting, unverified}
use Rattle.policy_slots.proofs.delegation.judge_token.Goals as goal

pub returns-in_default-clause-refused : goal.returns-in_default-clause-refused
returns-in_default-clause-refused c page admitted acts signed =
    unverified admitted (approval_of c.args.signed.now) c.if-signed-ne16.false (c.in_default.ensures.none page admitted acts)

pub returns-then-not-is_token-clause-refused : goal.returns-then-not-is_token-clause-refused
returns-then-not-is_token-clause-refused c page admitted acts signed =
    let key = key_of c.args.tables.now.entries.items c.in-Some.key.now in
    unfitting admitted (approval_of c.args.signed.now) c.if-signed-ne16.false
    (domain_aid c.args.tables.now.entries.items c.in-Some.field-0-0) key (c.in-Some.ensures.some page admitted acts)
    (λ fits. (let is = c.is_token.ensures.1 (rw (signed.0, signed.1) fits) in let clash = sym is ∙ c.if-not-is_token.true in cc))

pub returns-clause-passed : goal.returns-clause-passed
returns-clause-passed c page admitted acts signed =
    let key = key_of c.args.tables.now.entries.items c.in-Some.key.now in
    let fits = c.is_token.ensures.0 c.if-not-is_token.false in
    approved admitted (approval_of c.args.signed.now) c.if-signed-ne16.false
    (domain_aid c.args.tables.now.entries.items c.in-Some.field-0-0) key (c.in-Some.ensures.some page admitted acts)
    (rw (signed.0, signed.1) at fits)
