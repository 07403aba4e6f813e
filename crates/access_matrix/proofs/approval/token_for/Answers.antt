use Rattle.card_types.specs.Represents.{domain_aid, key_of}
use Rattle.access_matrix.proofs.approval.token_for.Goals as goal

pub returns-in_default-clause-approved : goal.returns-in_default-clause-approved
returns-in_default-clause-approved c page admitted acts = λ delegated. c.in_default.ensures.none page admitted acts

pub returns-clause-approved : goal.returns-clause-approved
returns-clause-approved c page admitted acts =
    let entries = c.args.tables.now.entries.items in
    let holder = c.in-Some.ensures.some page admitted acts in
    (c.if-not-delegated.false, (domain_aid entries c.in-Some.field-0-0, key_of entries c.in-Some.key.now, holder, c.token_under.ensures))
