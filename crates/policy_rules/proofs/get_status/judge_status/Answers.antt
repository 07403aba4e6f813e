use Rattle.std.proofs.Common.{Some, subst, sym, ◌∙◌}
use Rattle.std.specs.Prelude.{option_copied}
use Rattle.policy_rules.specs.Prelude.{GetStatusFails, IsFirst, get_status_rules}
use Rattle.policy_machine.specs.declared.rule.Rule.TheVariants.{GS}
use Rattle.policy_rules.proofs.GetStatusJudging.{locked_first, none_first, nothing_first, nothing_shown, placeless_first, something_shown}
use Rattle.policy_slots.proofs.ActingDomain.{locked_fails, unlocked_passes}
use Rattle.policy_rules.proofs.get_status.judge_status.Goals as goal

pub returns-then-is_locked-clause-refused : goal.returns-then-is_locked-clause-refused
returns-then-is_locked-clause-refused c page admitted acts placed is =
    locked_first admitted
    (locked_fails page c.args.tables.now c.args.domain admitted acts (sym (c.is_locked.ensures acts.entry acts.at) ∙ c.if-is_locked.true))

pub returns-in-Err-clause-refused : goal.returns-in-Err-clause-refused
returns-in-Err-clause-refused c page admitted acts placed is =
    let unlocked = unlocked_passes page c.args.tables.now c.args.domain admitted acts (sym (c.is_locked.ensures acts.entry acts.at) ∙ c.if-is_locked.false) in
    let fails = c.in-Err.ensures.refused admitted placed is in
    subst (λ rule. IsFirst (GetStatusFails admitted) get_status_rules (Some (GS rule))) (sym fails.0) (placeless_first admitted unlocked fails.1)

pub returns-in-Some-clause-passed : goal.returns-in-Some-clause-passed
returns-in-Some-clause-passed c page admitted acts placed is =
    let unlocked = unlocked_passes page c.args.tables.now c.args.domain admitted acts (sym (c.is_locked.ensures acts.entry acts.at) ∙ c.if-is_locked.false) in
    none_first admitted unlocked (c.in-Ok.ensures.passed admitted placed is)
    (something_shown admitted c.args.request.now is (option_copied c.in-Ok.after) (c.in-Ok.ensures.begins admitted placed is) page c.args.tables.now c.in-Some.found
    (c.in-Some.ensures.some page admitted acts))

pub returns-in-None-clause-refused : goal.returns-in-None-clause-refused
returns-in-None-clause-refused c page admitted acts placed is =
    let unlocked = unlocked_passes page c.args.tables.now c.args.domain admitted acts (sym (c.is_locked.ensures acts.entry acts.at) ∙ c.if-is_locked.false) in
    nothing_first admitted unlocked (c.in-Ok.ensures.passed admitted placed is)
    (nothing_shown admitted c.args.request.now is (option_copied c.in-Ok.after) (c.in-Ok.ensures.begins admitted placed is) (c.in-None.ensures.none page admitted acts))
