use Rattle.std.proofs.Common.{rules, ℕ, List, [], ◌∷◌, Option, Some, inl, inr, refl, ap, ◌∙◌}
use Rattle.std.proofs.lemmas.Bool.{iff_false}
use Rattle.content_rules.specs.Prelude.{ActsIn, Admitted, ExtraditingFails, InstallData, IsExtraditionOf, IsFirst, OwnFirst, managed_extradition}
use Rattle.policy_machine.specs.declared.extradition.RuleEX.{RuleEX}
use Rattle.policy_machine.specs.declared.extradition.RuleEX.TheVariants.{EX1, EX2, EX3, EX4, EX5, EX6, EX7}
use Rattle.content_rules.proofs.ExtraditionJudging.{fixed, free, known, no_domain, unknown}
use Rattle.content_rules.proofs.extradition.ExtraditionRequestJudgedRequest.judge_own.Goals as goal
use Rattle.content_rules.proofs.extradition.ExtraditionRequestJudgedRequest.judge_own.Goals.{After-is_barred, After-is_fixed, After-is_unfit}

abbrev First : Admitted → InstallData → List RuleEX → Option RuleEX → Type 0
First admitted given = IsFirst (ExtraditingFails admitted given)

-- the rules before one pass, so the first that fails is among those that are left
from_3 : (c : After-is_fixed) (page : ℕ → List ℕ) (admitted : Admitted) (acts : ActsIn page c.args.tables.now c.args.domain admitted)
    (is : IsExtraditionOf c.args.self.now admitted.command) (found : Option RuleEX)
    → First admitted is.given (EX3 ∷ EX4 ∷ EX5 ∷ EX6 ∷ EX7 ∷ []) found → OwnFirst managed_extradition.judged admitted is.given found
from_3 c page admitted acts is found rest =
    let tables = c.args.tables.now in
    let may = (c.may_manage.ensures page admitted acts).0 c.if-not-may_manage.false in
    let there = c.in-Some-find_domain.ensures.domain page admitted.at.registry acts.says acts.well in
    inr ((λ fails. fails may), inr (known page tables c.args.domain admitted acts c.args.self.now is c.in-Some.thing c.in-Some.ensures.some there, rest))

from_5 : (c : After-is_unfit) (page : ℕ → List ℕ) (admitted : Admitted) (acts : ActsIn page c.args.tables.now c.args.domain admitted)
    (is : IsExtraditionOf c.args.self.now admitted.command) (found : Option RuleEX)
    → First admitted is.given (EX5 ∷ EX6 ∷ EX7 ∷ []) found → First admitted is.given (EX3 ∷ EX4 ∷ EX5 ∷ EX6 ∷ EX7 ∷ []) found
from_5 c page admitted acts is found rest =
    let three = free page c.args.tables.now c.args.domain admitted acts c.args.self.now is (iff_false c.is_fixed.ensures c.if-is_fixed.false) in
    let charge = c.has_charge.ensures page admitted is.given.third acts (c.in-Some.ensures.some ∙ ap Some is.aid) in
    inr (three, inr ((λ fails. fails (charge.0 c.if-not-has_charge.false)), rest))

from_7 : (c : After-is_barred) (page : ℕ → List ℕ) (admitted : Admitted) (acts : ActsIn page c.args.tables.now c.args.domain admitted)
    (is : IsExtraditionOf c.args.self.now admitted.command) (found : Option RuleEX)
    → First admitted is.given (EX7 ∷ []) found → First admitted is.given (EX5 ∷ EX6 ∷ EX7 ∷ []) found
from_7 c page admitted acts is found rest =
    let into = c.in-Some-find_domain.ensures.some ∙ ap Some is.to in
    let over = c.is_over.ensures page admitted.at.registry is.given.third is.given.first acts.says acts.well (c.in-Some.ensures.some ∙ ap Some is.aid) into in
    inr (iff_false (c.is_unfit.ensures page admitted is.given acts.says into) c.if-is_unfit.false, inr (iff_false over c.if-is_over.false, rest))

pub returns-then-not-may_manage-clause-refused : goal.returns-then-not-may_manage-clause-refused
returns-then-not-may_manage-clause-refused c page admitted acts told is =
    (EX1, refl, inl (iff_false (c.may_manage.ensures page admitted acts) c.if-not-may_manage.true, refl))

pub returns-in_default-clause-refused : goal.returns-in_default-clause-refused
returns-in_default-clause-refused c page admitted acts told is =
    let may = (c.may_manage.ensures page admitted acts).0 c.if-not-may_manage.false in
    (EX2, refl, inr ((λ fails. fails may), inl (unknown page c.args.tables.now c.args.domain admitted acts c.args.self.now is c.in_default.ensures.none, refl)))

pub returns-in_default-find_domain-clause-refused : goal.returns-in_default-find_domain-clause-refused
returns-in_default-find_domain-clause-refused c page admitted acts told is =
    let may = (c.may_manage.ensures page admitted acts).0 c.if-not-may_manage.false in
    let none = c.in_default-find_domain.ensures.none page admitted.at.registry acts.says acts.well in
    (EX2, refl, inr ((λ fails. fails may), inl (no_domain page c.args.tables.now c.args.domain admitted acts c.args.self.now is none, refl)))

pub returns-then-is_fixed-clause-refused : goal.returns-then-is_fixed-clause-refused
returns-then-is_fixed-clause-refused c page admitted acts told is =
    let at = goal.at.returns-then-is_fixed-clause-refused c in
    let fails = fixed page c.args.tables.now c.args.domain admitted acts c.args.self.now is (c.is_fixed.ensures.0 c.if-is_fixed.true) in
    (EX3, refl, from_3 at.After-is_fixed page admitted acts is _ (inl (fails, refl)))

pub returns-then-not-has_charge-clause-refused : goal.returns-then-not-has_charge-clause-refused
returns-then-not-has_charge-clause-refused c page admitted acts told is =
    let at = goal.at.returns-then-not-has_charge-clause-refused c in
    let three = free page c.args.tables.now c.args.domain admitted acts c.args.self.now is (iff_false c.is_fixed.ensures c.if-is_fixed.false) in
    let charge = c.has_charge.ensures page admitted is.given.third acts (c.in-Some.ensures.some ∙ ap Some is.aid) in
    (EX4, refl, from_3 at.After-is_fixed page admitted acts is _ (inr (three, inl (iff_false charge c.if-not-has_charge.true, refl))))

pub returns-then-is_unfit-clause-refused : goal.returns-then-is_unfit-clause-refused
returns-then-is_unfit-clause-refused c page admitted acts told is =
    let at = goal.at.returns-then-is_unfit-clause-refused c in
    let unfit = c.is_unfit.ensures page admitted is.given acts.says (c.in-Some-find_domain.ensures.some ∙ ap Some is.to) in
    (EX5, refl, from_3 at.After-is_fixed page admitted acts is _ (from_5 at.After-is_unfit page admitted acts is _ (inl (unfit.0 c.if-is_unfit.true, refl))))

pub returns-then-is_over-clause-refused : goal.returns-then-is_over-clause-refused
returns-then-is_over-clause-refused c page admitted acts told is =
    let at = goal.at.returns-then-is_over-clause-refused c in
    let into = c.in-Some-find_domain.ensures.some ∙ ap Some is.to in
    let over = c.is_over.ensures page admitted.at.registry is.given.third is.given.first acts.says acts.well (c.in-Some.ensures.some ∙ ap Some is.aid) into in
    let five = iff_false (c.is_unfit.ensures page admitted is.given acts.says into) c.if-is_unfit.false in
    (EX6, refl, from_3 at.After-is_fixed page admitted acts is _ (from_5 at.After-is_unfit page admitted acts is _ (inr (five, inl (over.0 c.if-is_over.true, refl)))))

pub returns-then-is_barred-clause-refused : goal.returns-then-is_barred-clause-refused
returns-then-is_barred-clause-refused c page admitted acts told is =
    let at = goal.at.returns-then-is_barred-clause-refused c in
    let fails = (c.is_barred.ensures page admitted acts is c.in-Some-find_domain.ensures.some).0 c.if-is_barred.true in
    (EX7, refl, from_3 at.After-is_fixed page admitted acts is _ (from_5 at.After-is_unfit page admitted acts is _ (from_7 at.After-is_barred page admitted acts is _ (inl (fails, refl)))))

pub returns-clause-passed : goal.returns-clause-passed
returns-clause-passed c page admitted acts told is =
    let at = goal.at.returns-clause-passed c in
    let seven = iff_false (c.is_barred.ensures page admitted acts is c.in-Some-find_domain.ensures.some) c.if-is_barred.false in
    from_3 at.After-is_fixed page admitted acts is _ (from_5 at.After-is_unfit page admitted acts is _ (from_7 at.After-is_barred page admitted acts is _ (inr (seven, refl))))

pub returns-clause-found : goal.returns-clause-found
returns-clause-found c = record {
  thing = c.in-Some.ensures.some;
  from = λ page said says well. c.domain_of.ensures.named page said c.args.self.now.aid says well c.in-Some.ensures.some;
  to = c.in-Some-find_domain.ensures.some;
  old = search rules;
}
