use Rattle.policy_rules.proofs.EntryStatusJudging.{all_found, all_unknown, one_found, one_unknown}
use Rattle.policy_rules.proofs.entry_status.find_named.Goals as goal

pub returns-then-request-clause-known : goal.returns-then-request-clause-known
returns-then-request-clause-known c page admitted domain acts is =
    all_found page c.args.tables.now domain admitted acts c.args.request.now is c.find_domain.result c.find_domain.ensures.some
    (c.find_domain.ensures.domain page admitted.at.registry acts.says acts.well)

pub returns-then-request-clause-none : goal.returns-then-request-clause-none
returns-then-request-clause-none c page admitted domain acts is =
    all_unknown page c.args.tables.now domain admitted acts c.args.request.now is c.find_domain.result c.if-request.true
    (c.find_domain.ensures.none page admitted.at.registry acts.says acts.well)

pub returns-else-request-clause-known : goal.returns-else-request-clause-known
returns-else-request-clause-known c page admitted domain acts is =
    one_found page c.args.tables.now domain admitted acts c.args.request.now is c.find_entry.result c.if-request.false c.find_entry.ensures.some

pub returns-else-request-clause-none : goal.returns-else-request-clause-none
returns-else-request-clause-none c page admitted domain acts is =
    one_unknown page c.args.tables.now domain admitted acts c.args.request.now is c.find_entry.result c.if-request.false
    (c.find_entry.ensures.none page admitted.at.registry acts.says acts.well)
