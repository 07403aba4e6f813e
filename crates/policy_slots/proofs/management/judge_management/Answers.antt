use Rattle.std.proofs.Common.{◌≡◌, false, refl, rules, sym, ◌∙◌, inr}
use Rattle.policy_machine.specs.Select.{is_card_locked}
use Rattle.policy_slots.proofs.ActingDomain.{card_passes, locked_fails, unlocked_passes}
use Rattle.policy_slots.proofs.management.judge_management.Goals as goal

pub returns-then-is_locked-clause-refused : goal.returns-then-is_locked-clause-refused
returns-then-is_locked-clause-refused c page admitted acts =
    let opened : is_card_locked c.args.tables.now.life ≡ false = search rules in
    inr (
      refl,
      card_passes page c.args.tables.now c.args.domain admitted acts opened,
      locked_fails page c.args.tables.now c.args.domain admitted acts (sym (c.is_locked.ensures acts.entry acts.at) ∙ c.if-is_locked.true),
    )

pub returns-clause-passed : goal.returns-clause-passed
returns-clause-passed c page admitted acts =
    let opened : is_card_locked c.args.tables.now.life ≡ false = search rules in (
      card_passes page c.args.tables.now c.args.domain admitted acts opened,
      unlocked_passes page c.args.tables.now c.args.domain admitted acts (sym (c.is_locked.ensures acts.entry acts.at) ∙ c.if-is_locked.false),
    )
