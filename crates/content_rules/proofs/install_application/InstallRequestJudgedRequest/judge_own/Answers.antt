use Rattle.std.proofs.Common.{ℕ, List, [], ◌∷◌, Option, inl, inr, refl, sym}
use Rattle.std.proofs.lemmas.Bool.{iff_false}
use Rattle.content_rules.specs.Prelude.{ActsIn, Admitted, InstallAsked, InstallingFails, IsFirst, IsInstallOf, IsLoadNamed, OwnFirst, entry_made, managed_install}
use Rattle.policy_machine.specs.declared.install_application.RuleII.{RuleII}
use Rattle.policy_machine.specs.declared.install_application.RuleII.TheVariants.{II1, II2, II3, II4, II5, II6, II7}
use Rattle.content_rules.proofs.InstallApplicationJudging.{exceeds, free, full, in_charge, no_file, no_module, out_of_charge, roomy, source, taken, within}
use Rattle.content_rules.proofs.install_application.InstallRequestJudgedRequest.judge_own.Goals as goal
use Rattle.content_rules.proofs.install_application.InstallRequestJudgedRequest.judge_own.Goals.{After-first_free, After-is_out_of_charge, After-may_be_made}

abbrev First : Admitted → InstallAsked → List RuleII → Option RuleII → Type 0
First admitted asked = IsFirst (InstallingFails admitted asked)

-- the rules before one pass, so the first that fails is among those that are left
from_3 : (c : After-is_out_of_charge) (page : ℕ → List ℕ) (admitted : Admitted) (acts : ActsIn page c.args.tables.now c.args.domain admitted)
    (is : IsInstallOf c.args.self.now admitted.command) (found : Option RuleII)
    → First admitted is.asked (II3 ∷ II4 ∷ II5 ∷ II6 ∷ II7 ∷ []) found → OwnFirst managed_install.judged admitted is.asked found
from_3 c page admitted acts is found rest =
    let tables = c.args.tables.now in
    let may = (c.may_manage.ensures page admitted acts).0 c.if-not-may_manage.false in
    let has = iff_false c.lacks_module.ensures c.if-lacks_module.false in
    inr ((λ fails. fails may), inr (source page tables c.args.domain admitted acts c.args.self.now is c.in-Some.file c.in-Some.ensures.some has, rest))

from_5 : (c : After-may_be_made) (page : ℕ → List ℕ) (admitted : Admitted) (acts : ActsIn page c.args.tables.now c.args.domain admitted)
    → IsLoadNamed c.args.tables.now.entries.items c.args.live.now.load admitted.at.volatile.load
    → (is : IsInstallOf c.args.self.now admitted.command) (found : Option RuleII)
    → First admitted is.asked (II5 ∷ II6 ∷ II7 ∷ []) found → First admitted is.asked (II3 ∷ II4 ∷ II5 ∷ II6 ∷ II7 ∷ []) found
from_5 c page admitted acts told is found rest =
    let tables = c.args.tables.now in
    let three = in_charge page tables c.args.domain admitted acts c.args.self.now is (iff_false (c.is_out_of_charge.ensures page admitted acts) c.if-is_out_of_charge.false) in
    inr (three, inr (free page tables c.args.domain admitted acts c.args.self.now is (iff_false (c.is_taken.ensures.taken page admitted acts.says told) c.if-is_taken.false), rest))

from_7 : (c : After-first_free) (page : ℕ → List ℕ) (admitted : Admitted) (acts : ActsIn page c.args.tables.now c.args.domain admitted)
    (is : IsInstallOf c.args.self.now admitted.command) (found : Option RuleII)
    → First admitted is.asked (II7 ∷ []) found → First admitted is.asked (II5 ∷ II6 ∷ II7 ∷ []) found
from_7 c page admitted acts is found rest =
    let made = c.may_be_made.ensures (entry_made admitted is.asked) (sym is.file) (sym is.privileges) in
    let six = within page c.args.tables.now c.args.domain admitted acts c.args.self.now is c.exceeds_domain.result (rw c.deref.ensures.value at c.exceeds_domain.ensures) c.if-exceeds_domain.false in
    inr ((λ fails. fails (made.0 c.if-not-may_be_made.false)), inr (six, rest))

pub returns-then-not-may_manage-clause-refused : goal.returns-then-not-may_manage-clause-refused
returns-then-not-may_manage-clause-refused c page admitted acts told is =
    (II1, refl, inl (iff_false (c.may_manage.ensures page admitted acts) c.if-not-may_manage.true, refl))

pub returns-in_default-clause-refused : goal.returns-in_default-clause-refused
returns-in_default-clause-refused c page admitted acts told is =
    let may = (c.may_manage.ensures page admitted acts).0 c.if-not-may_manage.false in
    let none = c.in_default.ensures.none page admitted.at.registry acts.says acts.well in
    (II2, refl, inr ((λ fails. fails may), inl (no_file page c.args.tables.now c.args.domain admitted acts c.args.self.now is none, refl)))

pub returns-then-lacks_module-clause-refused : goal.returns-then-lacks_module-clause-refused
returns-then-lacks_module-clause-refused c page admitted acts told is =
    let may = (c.may_manage.ensures page admitted acts).0 c.if-not-may_manage.false in
    let fails = no_module page c.args.tables.now c.args.domain admitted acts c.args.self.now is (c.lacks_module.ensures.0 c.if-lacks_module.true) in
    (II2, refl, inr ((λ fails. fails may), inl (fails, refl)))

pub returns-then-is_out_of_charge-clause-refused : goal.returns-then-is_out_of_charge-clause-refused
returns-then-is_out_of_charge-clause-refused c page admitted acts told is =
    let at = goal.at.returns-then-is_out_of_charge-clause-refused c in
    let fails = out_of_charge page c.args.tables.now c.args.domain admitted acts c.args.self.now is ((c.is_out_of_charge.ensures page admitted acts).0 c.if-is_out_of_charge.true) in
    (II3, refl, from_3 at.After-is_out_of_charge page admitted acts is _ (inl (fails, refl)))

pub returns-then-is_taken-clause-refused : goal.returns-then-is_taken-clause-refused
returns-then-is_taken-clause-refused c page admitted acts told is =
    let at = goal.at.returns-then-is_taken-clause-refused c in
    let three = in_charge page c.args.tables.now c.args.domain admitted acts c.args.self.now is (iff_false (c.is_out_of_charge.ensures page admitted acts) c.if-is_out_of_charge.false) in
    let fails = taken page c.args.tables.now c.args.domain admitted acts c.args.self.now is ((c.is_taken.ensures.taken page admitted acts.says told).0 c.if-is_taken.true) in
    (II4, refl, from_3 at.After-is_out_of_charge page admitted acts is _ (inr (three, inl (fails, refl))))

pub returns-then-not-may_be_made-clause-refused : goal.returns-then-not-may_be_made-clause-refused
returns-then-not-may_be_made-clause-refused c page admitted acts told is =
    let at = goal.at.returns-then-not-may_be_made-clause-refused c in
    let fails = iff_false (c.may_be_made.ensures (entry_made admitted is.asked) (sym is.file) (sym is.privileges)) c.if-not-may_be_made.true in
    (II5, refl, from_3 at.After-is_out_of_charge page admitted acts is _ (from_5 at.After-may_be_made page admitted acts told is _ (inl (fails, refl))))

pub returns-then-exceeds_domain-clause-refused : goal.returns-then-exceeds_domain-clause-refused
returns-then-exceeds_domain-clause-refused c page admitted acts told is =
    let at = goal.at.returns-then-exceeds_domain-clause-refused c in
    let made = c.may_be_made.ensures (entry_made admitted is.asked) (sym is.file) (sym is.privileges) in
    let fails = exceeds page c.args.tables.now c.args.domain admitted acts c.args.self.now is c.exceeds_domain.result (rw c.deref.ensures.value at c.exceeds_domain.ensures) c.if-exceeds_domain.true in (
      II6,
      refl,
      from_3 at.After-is_out_of_charge page admitted acts is _ (from_5 at.After-may_be_made page admitted acts told is _
          (inr ((λ fails. fails (made.0 c.if-not-may_be_made.false)), inl (fails, refl)))),
    )

pub returns-in-None-clause-refused : goal.returns-in-None-clause-refused
returns-in-None-clause-refused c page admitted acts told is =
    let at = goal.at.returns-in-None-clause-refused c in
    let fails = full page c.args.tables.now c.args.domain admitted acts c.args.self.now is c.requires.in_order.layout.slots.entries (rw c.deref-2.ensures.value at c.in-None.ensures.none) in (
      II7,
      refl,
      from_3 at.After-is_out_of_charge page admitted acts is _ (from_5 at.After-may_be_made page admitted acts told is _
          (from_7 at.After-first_free page admitted acts is _ (inl (fails, refl)))),
    )

pub returns-in-Some-first_free-clause-passed : goal.returns-in-Some-first_free-clause-passed
returns-in-Some-first_free-clause-passed c page admitted acts told is =
    let at = goal.at.returns-in-Some-first_free-clause-passed c in
    let seven = roomy page c.args.tables.now c.args.domain admitted acts c.args.self.now is c.requires.in_order.layout.slots.entries c.in-Some-first_free.field-0
    (rw c.deref-2.ensures.value at c.in-Some-first_free.ensures.some) in
    from_3 at.After-is_out_of_charge page admitted acts is _ (from_5 at.After-may_be_made page admitted acts told is _
    (from_7 at.After-first_free page admitted acts is _ (inr (seven, refl))))
