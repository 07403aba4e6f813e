use Rattle.std.proofs.Common.{length}
use Rattle.policy_rules.specs.Prelude.{PutFails, command_form, key_rules, managed_put_key, sent_keys, version_rules}
use Rattle.policy_machine.proofs.FirstJoined.{passed_after, refused_after, refused_within}
use Rattle.policy_rules.proofs.PutKeyJudging.{roomy_ok}
use Rattle.policy_rules.proofs.put_key.judge_put_key.Goals as goal

pub returns-in_err-judge_put_versions-clause-refused : goal.returns-in_err-judge_put_versions-clause-refused
returns-in_err-judge_put_versions-clause-refused c page admitted acts request checks =
    refused_within ((command_form managed_put_key).fails admitted) key_rules version_rules c.from_residual.result c.in_err-judge_put_versions.field-0.0 c.from_residual.ensures.1
    (c.in_err-judge_put_versions.ensures.refused page admitted c.args.keys.now acts request)

pub returns-clause-passed : goal.returns-clause-passed
returns-clause-passed c page admitted acts request checks =
    passed_after ((command_form managed_put_key).fails admitted) key_rules version_rules c.judge_put_keys.result
    (c.in_ok-judge_put_versions.ensures.passed page admitted c.args.keys.now acts request)
    (c.judge_put_keys.ensures.passed page admitted c.args.version acts request checks)

pub returns-clause-refused : goal.returns-clause-refused
returns-clause-refused c page admitted acts request checks =
    refused_after ((command_form managed_put_key).fails admitted) key_rules version_rules c.judge_put_keys.result
    (c.in_ok-judge_put_versions.ensures.passed page admitted c.args.keys.now acts request)
    (c.judge_put_keys.ensures.refused page admitted c.args.version acts request checks)

pub returns-clause-roomy : goal.returns-clause-roomy
returns-clause-roomy c =
    let added = length (sent_keys c.args.keys.now) in
    roomy_ok (PutFails c.args.domain c.args.replaced c.args.version added c.args.tables.now.keys.items) c.judge_put_keys.result
    (c.in_ok-judge_put_versions.ensures.known added) (c.in_ok-judge_put_versions.ensures.free added) (c.judge_put_keys.ensures.roomy c.args.version)
