use Rattle.std.proofs.Common.{rules, ℕ, List, [], ◌∷◌, Option, inl, inr, refl, sym, ◌∙◌}
use Rattle.std.proofs.lemmas.Bool.{iff_false}
use Rattle.content_rules.specs.Prelude.{ActsIn, Admitted, InstallingLoadFails, IsFirst, IsLoadInstallOf, IsLoadNamed, LoadData, OwnFirst, judged_install_load}
use Rattle.policy_machine.specs.declared.install_load.RuleIL.{RuleIL}
use Rattle.policy_machine.specs.declared.install_load.RuleIL.TheVariants.{IL1, IL2, IL3, IL4, IL5, IL6, IL7}
use Rattle.content_rules.proofs.InstallApplicationJudging.{none_found}
use Rattle.content_rules.proofs.InstallLoadJudging.{free, full, idle, loading, roomy, taken, within}
use Rattle.policy_slots.proofs.ThingsFound.{acting_named}
use Rattle.content_rules.proofs.install_load.LoadInstallRequestJudgedRequest.judge_own.Goals as goal
use Rattle.content_rules.proofs.install_load.LoadInstallRequestJudgedRequest.judge_own.Goals.{After-find, After-first_free, After-is_at_or_above}

abbrev First : Admitted → LoadData → List RuleIL → Option RuleIL → Type 0
First admitted given = IsFirst (InstallingLoadFails admitted given)

-- the rules before one pass, so the first that fails is among those that are left
from_3 : (c : After-find) (page : ℕ → List ℕ) (admitted : Admitted) (acts : ActsIn page c.args.tables.now c.args.domain admitted)
    → IsLoadNamed c.args.tables.now.entries.items c.args.live.now.load admitted.at.volatile.load
    → (is : IsLoadInstallOf c.args.self.now admitted.command) (found : Option RuleIL)
    → First admitted is.given (IL3 ∷ IL4 ∷ IL5 ∷ IL6 ∷ IL7 ∷ []) found → OwnFirst judged_install_load admitted is.given found
from_3 c page admitted acts told is found rest =
    let tables = c.args.tables.now in
    let may = (c.may_manage.ensures page admitted acts).0 c.if-not-may_manage.false in
    let two = idle page tables c.args.domain admitted acts c.args.self.now is c.args.live.now.load told (sym c.is_some.ensures ∙ c.if-is_some.false) in
    inr ((λ fails. fails may), inr (two, rest))

from_5 : (c : After-is_at_or_above) (page : ℕ → List ℕ) (admitted : Admitted) (acts : ActsIn page c.args.tables.now c.args.domain admitted)
    (is : IsLoadInstallOf c.args.self.now admitted.command) (found : Option RuleIL)
    → First admitted is.given (IL5 ∷ IL6 ∷ IL7 ∷ []) found → First admitted is.given (IL3 ∷ IL4 ∷ IL5 ∷ IL6 ∷ IL7 ∷ []) found
from_5 c page admitted acts is found rest =
    let none = none_found _ _ c.find.result (sym c.is_some-2.ensures ∙ c.if-is_some-2.false) c.find.ensures.none in
    let three = free page c.args.tables.now c.args.domain admitted acts c.args.self.now is none in
    inr (three, inr (c.in-Some.ensures.passed page admitted is.given acts is.domain, rest))

from_7 : (c : After-first_free) (page : ℕ → List ℕ) (admitted : Admitted) (acts : ActsIn page c.args.tables.now c.args.domain admitted)
    (is : IsLoadInstallOf c.args.self.now admitted.command) (found : Option RuleIL)
    → First admitted is.given (IL7 ∷ []) found → First admitted is.given (IL5 ∷ IL6 ∷ IL7 ∷ []) found
from_7 c page admitted acts is found rest =
    let tables = c.args.tables.now in
    let at = c.is_at_or_above.ensures page admitted.at.registry _ _ acts.says acts.well (acting_named page tables c.args.domain admitted acts)
    (c.in-Some.ensures.some page admitted is.given acts is.domain) in
    let five = within page tables c.args.domain admitted acts c.args.self.now is c.is_at_or_above.result at c.if-not-is_at_or_above.false in
    inr (five, inr (iff_false (c.is_unfit_hash.ensures.told page admitted is.given acts is.hash) c.if-is_unfit_hash.false, rest))

pub returns-then-not-may_manage-clause-refused : goal.returns-then-not-may_manage-clause-refused
returns-then-not-may_manage-clause-refused c page admitted acts told is =
    (IL1, refl, inl (iff_false (c.may_manage.ensures page admitted acts) c.if-not-may_manage.true, refl))

pub returns-then-is_some-clause-refused : goal.returns-then-is_some-clause-refused
returns-then-is_some-clause-refused c page admitted acts told is =
    let may = (c.may_manage.ensures page admitted acts).0 c.if-not-may_manage.false in
    let fails = loading page c.args.tables.now c.args.domain admitted acts c.args.self.now is c.args.live.now.load told (sym c.is_some.ensures ∙ c.if-is_some.true) in
    (IL2, refl, inr ((λ fails. fails may), inl (fails, refl)))

pub returns-then-is_some-2-clause-refused : goal.returns-then-is_some-2-clause-refused
returns-then-is_some-2-clause-refused c page admitted acts told is =
    let at = goal.at.returns-then-is_some-2-clause-refused c in
    let fails = taken page c.args.tables.now c.args.domain admitted acts c.args.self.now is c.find.result c.find.ensures.some (sym c.is_some-2.ensures ∙ c.if-is_some-2.true) in
    (IL3, refl, from_3 at.After-find page admitted acts told is _ (inl (fails, refl)))

pub returns-in_default-clause-refused : goal.returns-in_default-clause-refused
returns-in_default-clause-refused c page admitted acts told is =
    let at = goal.at.returns-in_default-clause-refused c in
    let none = none_found _ _ c.find.result (sym c.is_some-2.ensures ∙ c.if-is_some-2.false) c.find.ensures.none in
    let three = free page c.args.tables.now c.args.domain admitted acts c.args.self.now is none in
    (IL4, refl, from_3 at.After-find page admitted acts told is _ (inr (three, inl (c.in_default.ensures.none page admitted is.given acts is.domain, refl))))

pub returns-then-not-is_at_or_above-clause-refused : goal.returns-then-not-is_at_or_above-clause-refused
returns-then-not-is_at_or_above-clause-refused c page admitted acts told is =
    let at = goal.at.returns-then-not-is_at_or_above-clause-refused c in
    let above = c.is_at_or_above.ensures page admitted.at.registry _ _ acts.says acts.well (acting_named page c.args.tables.now c.args.domain admitted acts)
    (c.in-Some.ensures.some page admitted is.given acts is.domain) in (
      IL5,
      refl,
      from_3 at.After-find page admitted acts told is _ (from_5 at.After-is_at_or_above page admitted acts is _
          (inl (iff_false above c.if-not-is_at_or_above.true, refl))),
    )

pub returns-then-is_unfit_hash-clause-refused : goal.returns-then-is_unfit_hash-clause-refused
returns-then-is_unfit_hash-clause-refused c page admitted acts told is =
    let at = goal.at.returns-then-is_unfit_hash-clause-refused c in
    let above = c.is_at_or_above.ensures page admitted.at.registry _ _ acts.says acts.well (acting_named page c.args.tables.now c.args.domain admitted acts)
    (c.in-Some.ensures.some page admitted is.given acts is.domain) in
    let five = within page c.args.tables.now c.args.domain admitted acts c.args.self.now is c.is_at_or_above.result above c.if-not-is_at_or_above.false in (
      IL6,
      refl,
      from_3 at.After-find page admitted acts told is _ (from_5 at.After-is_at_or_above page admitted acts is _
          (inr (five, inl ((c.is_unfit_hash.ensures.told page admitted is.given acts is.hash).0 c.if-is_unfit_hash.true, refl)))),
    )

pub returns-in-None-clause-refused : goal.returns-in-None-clause-refused
returns-in-None-clause-refused c page admitted acts told is =
    let at = goal.at.returns-in-None-clause-refused c in
    let fails = full page c.args.tables.now c.args.domain admitted acts c.args.self.now is c.requires.in_order.layout.slots.files (rw c.deref.ensures.value at c.in-None.ensures.none) in (
      IL7,
      refl,
      from_3 at.After-find page admitted acts told is _ (from_5 at.After-is_at_or_above page admitted acts is _
          (from_7 at.After-first_free page admitted acts is _ (inl (fails, refl)))),
    )

pub returns-in-Some-first_free-clause-passed : goal.returns-in-Some-first_free-clause-passed
returns-in-Some-first_free-clause-passed c page admitted acts told is =
    let at = goal.at.returns-in-Some-first_free-clause-passed c in
    let seven = roomy page c.args.tables.now c.args.domain admitted acts c.args.self.now is c.requires.in_order.layout.slots.files c.in-Some-first_free.field-0
    (rw c.deref.ensures.value at c.in-Some-first_free.ensures.some) in
    from_3 at.After-find page admitted acts told is _ (from_5 at.After-is_at_or_above page admitted acts is _
    (from_7 at.After-first_free page admitted acts is _ (inr (seven, refl))))

pub returns-in-Some-first_free-clause-found : goal.returns-in-Some-first_free-clause-found
returns-in-Some-first_free-clause-found c = record {
  found = λ page admitted acts is. c.in-Some.ensures.some page admitted is.given acts is.domain;
  hash = search rules;
  free = search rules;
  room = search rules;
}
