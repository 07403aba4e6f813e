use Rattle.std.proofs.Common.{ℕ, List, [], ◌∷◌, Option, inl, inr, refl}
use Rattle.std.proofs.lemmas.Bool.{iff_false}
use Rattle.content_rules.specs.Prelude.{ActsIn, Admitted, DeletingFails, IsDeletionOf, IsFirst, OwnFirst, managed_delete_object}
use Rattle.policy_machine.specs.declared.delete_object.RuleDO.{RuleDO}
use Rattle.policy_machine.specs.declared.delete_object.RuleDO.TheVariants.{DO1, DO2, DO3, DO4}
use Rattle.content_rules.proofs.DeleteObjectJudging.{fixed, free, known, unknown}
use Rattle.content_rules.proofs.delete_object.DeletionRequestJudgedRequest.judge_own.Goals as goal
use Rattle.content_rules.proofs.delete_object.DeletionRequestJudgedRequest.judge_own.Goals.{After-is_barred}

-- the first two rules pass, so the first that fails is among the others
from_3 : (c : After-is_barred) (page : ℕ → List ℕ) (admitted : Admitted) (acts : ActsIn page c.args.tables.now c.args.domain admitted)
    (is : IsDeletionOf c.args.self.now admitted.command) (found : Option RuleDO)
    → IsFirst (DeletingFails admitted is.asked) (DO3 ∷ DO4 ∷ []) found → OwnFirst managed_delete_object.judged admitted is.asked found
from_3 c page admitted acts is found rest =
    let one = known page c.args.tables.now c.args.domain admitted acts c.args.self.now is c.in-Some.thing c.in-Some.ensures.some in
    inr (one, inr (free page c.args.tables.now c.args.domain admitted acts c.args.self.now is (iff_false c.is_fixed.ensures c.if-is_fixed.false), rest))

pub returns-in_default-clause-refused : goal.returns-in_default-clause-refused
returns-in_default-clause-refused c page admitted acts told is =
    (DO1, refl, inl (unknown page c.args.tables.now c.args.domain admitted acts c.args.self.now is c.in_default.ensures.none, refl))

pub returns-then-is_fixed-clause-refused : goal.returns-then-is_fixed-clause-refused
returns-then-is_fixed-clause-refused c page admitted acts told is =
    let one = known page c.args.tables.now c.args.domain admitted acts c.args.self.now is c.in-Some.thing c.in-Some.ensures.some in
    let fails = fixed page c.args.tables.now c.args.domain admitted acts c.args.self.now is (c.is_fixed.ensures.0 c.if-is_fixed.true) in
    (DO2, refl, inr (one, inl (fails, refl)))

pub returns-then-is_barred-clause-refused : goal.returns-then-is_barred-clause-refused
returns-then-is_barred-clause-refused c page admitted acts told is =
    let at = goal.at.returns-then-is_barred-clause-refused c in
    let fails = (c.is_barred.ensures page admitted acts is c.in-Some.ensures.some).0 c.if-is_barred.true in
    (DO3, refl, from_3 at.After-is_barred page admitted acts is _ (inl (fails, refl)))

pub returns-then-is_needed-clause-refused : goal.returns-then-is_needed-clause-refused
returns-then-is_needed-clause-refused c page admitted acts told is =
    let at = goal.at.returns-then-is_needed-clause-refused c in
    let three = iff_false (c.is_barred.ensures page admitted acts is c.in-Some.ensures.some) c.if-is_barred.false in
    let fails = (c.is_needed.ensures.told c.args.domain page admitted acts told.0 told.1 is).0 c.if-is_needed.true in
    (DO4, refl, from_3 at.After-is_barred page admitted acts is _ (inr (three, inl (fails, refl))))

pub returns-clause-passed : goal.returns-clause-passed
returns-clause-passed c page admitted acts told is =
    let at = goal.at.returns-clause-passed c in
    let three = iff_false (c.is_barred.ensures page admitted acts is c.in-Some.ensures.some) c.if-is_barred.false in
    let four = iff_false (c.is_needed.ensures.told c.args.domain page admitted acts told.0 told.1 is) c.if-is_needed.false in
    from_3 at.After-is_barred page admitted acts is _ (inr (three, inr (four, refl)))
