use Rattle.std.proofs.Common.{refl, sym, ◌∙◌, inl, inr}
use Rattle.std.proofs.lemmas.Bool.{iff_false}
use Rattle.policy_slots.proofs.ActingDomain.{locked_fails, unlocked_passes}
use Rattle.policy_slots.proofs.management.judge_setting.Goals as goal

pub returns-then-is_locked-clause-refused : goal.returns-then-is_locked-clause-refused
returns-then-is_locked-clause-refused c page admitted acts told =
    inl (refl, locked_fails page c.args.tables.now c.args.domain admitted acts (sym (c.is_locked.ensures acts.entry acts.at) ∙ c.if-is_locked.true))

pub returns-then-is_closed-clause-refused : goal.returns-then-is_closed-clause-refused
returns-then-is_closed-clause-refused c page admitted acts told = inr (
  refl,
  unlocked_passes page c.args.tables.now c.args.domain admitted acts (sym (c.is_locked.ensures acts.entry acts.at) ∙ c.if-is_locked.false),
  (c.is_closed.ensures page admitted acts told).0 c.if-is_closed.true,
)

pub returns-clause-passed : goal.returns-clause-passed
returns-clause-passed c page admitted acts told = (
  unlocked_passes page c.args.tables.now c.args.domain admitted acts (sym (c.is_locked.ensures acts.entry acts.at) ∙ c.if-is_locked.false),
  iff_false (c.is_closed.ensures page admitted acts told) c.if-is_closed.false,
)
