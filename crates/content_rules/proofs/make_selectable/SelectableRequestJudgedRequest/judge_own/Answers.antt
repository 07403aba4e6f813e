use Rattle.std.proofs.Common.{rules, ◌≡◌, Some, refl}
use Rattle.std.proofs.lemmas.Bool.{iff_false}
use Rattle.content_rules.specs.Prelude.{Above, domain_slot, thing_in}
use Rattle.domain_tree.proofs.AboveNamed.{free_of_loops}
use Rattle.policy_machine.specs.declared.make_selectable.RuleMS.TheVariants.{MS1, MS2, MS3, MS4, MS5}
use Rattle.content_rules.proofs.MakeSelectableJudging.{elsewhere_first, other_life_first, others_first, own_passes, unknown_first, unmanaged_first}
use Rattle.content_rules.proofs.make_selectable.SelectableRequestJudgedRequest.judge_own.Goals as goal
use Rattle.content_rules.proofs.make_selectable.SelectableRequestJudgedRequest.judge_own.Goals.{After-is_just_installed}

-- the entry that is named is in its slot, below the domain
entry_at : (c : After-is_just_installed) → thing_in c.args.tables.now.entries.items c.in-Some.slot ≡ Some c.unwrap-entry.result.now
entry_at c = (let there : thing_in c.deref-2.result.now c.in-Some.slot ≡ Some c.unwrap-entry.result.now = search rules in rw c.deref-2.ensures.value at there)

below : (c : After-is_just_installed) → Above (domain_slot c.args.tables.now.entries.items) c.args.domain c.in-Some.slot
below c = rw c.deref.ensures.value at (c.above.ensures.0 c.if-not-above.false)

pub returns-then-not-may_manage-clause-refused : goal.returns-then-not-may_manage-clause-refused
returns-then-not-may_manage-clause-refused c page admitted acts told is =
    (MS1, refl, unmanaged_first page c.args.tables.now c.args.domain admitted acts c.args.self.now is (iff_false (c.may_manage.ensures page admitted acts) c.if-not-may_manage.true))

pub returns-in_default-clause-refused : goal.returns-in_default-clause-refused
returns-in_default-clause-refused c page admitted acts told is = (
  MS2,
  refl,
  unknown_first page c.args.tables.now c.args.domain admitted acts c.args.self.now is ((c.may_manage.ensures page admitted acts).0 c.if-not-may_manage.false)
      (c.in_default.ensures.none page admitted.at.registry acts.says acts.well),
)

pub above-requires-clause-no_loops : goal.above-requires-clause-no_loops
above-requires-clause-no_loops c =
    let order = c.requires.in_order in
    rw c.deref.ensures.value (free_of_loops order.page c.args.tables.now order.said order.says order.well)

pub returns-then-not-above-clause-refused : goal.returns-then-not-above-clause-refused
returns-then-not-above-clause-refused c page admitted acts told is = (
  MS3,
  refl,
  elsewhere_first page c.args.tables.now c.args.domain admitted acts c.args.self.now is ((c.may_manage.ensures page admitted acts).0 c.if-not-may_manage.false)
      c.in-Some.slot c.in-Some.ensures.some (rw c.deref.ensures.value at (iff_false c.above.ensures c.if-not-above.true)),
)

pub returns-then-not-is_just_installed-clause-refused : goal.returns-then-not-is_just_installed-clause-refused
returns-then-not-is_just_installed-clause-refused c page admitted acts told is =
    let path = goal.at.returns-then-not-is_just_installed-clause-refused c in (
      MS4,
      refl,
      other_life_first page c.args.tables.now c.args.domain admitted acts c.args.self.now is ((c.may_manage.ensures page admitted acts).0 c.if-not-may_manage.false)
          c.in-Some.slot c.in-Some.ensures.some (below path.After-is_just_installed) c.unwrap-entry.result.now (entry_at path.After-is_just_installed) (iff_false c.is_just_installed.ensures c.if-not-is_just_installed.true),
    )

pub returns-then-differ-clause-refused : goal.returns-then-differ-clause-refused
returns-then-differ-clause-refused c page admitted acts told is =
    let path = goal.at.returns-then-differ-clause-refused c in (
      MS5,
      refl,
      others_first page c.args.tables.now c.args.domain admitted acts c.args.self.now is ((c.may_manage.ensures page admitted acts).0 c.if-not-may_manage.false)
          c.in-Some.slot c.in-Some.ensures.some (below path.After-is_just_installed) c.unwrap-entry.result.now (entry_at path.After-is_just_installed) (c.is_just_installed.ensures.0 c.if-not-is_just_installed.false) (c.differ.ensures.0 c.if-differ.true),
    )

pub returns-clause-passed : goal.returns-clause-passed
returns-clause-passed c page admitted acts told is =
    let path = goal.at.returns-clause-passed c in
    own_passes page c.args.tables.now c.args.domain admitted acts c.args.self.now is ((c.may_manage.ensures page admitted acts).0 c.if-not-may_manage.false)
    c.in-Some.slot c.in-Some.ensures.some (below path.After-is_just_installed) c.unwrap-entry.result.now (entry_at path.After-is_just_installed) (c.is_just_installed.ensures.0 c.if-not-is_just_installed.false) (iff_false c.differ.ensures c.if-differ.false)
