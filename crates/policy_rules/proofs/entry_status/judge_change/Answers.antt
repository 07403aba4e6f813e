use Rattle.std.proofs.Common.{◌≡◌, ◌≢◌, ℕ, List, Option, None, Some, rules, subst, sym}
use Rattle.std.specs.Prelude.{MatchOption}
use Rattle.std.proofs.lemmas.Bool.{iff_false}
use Rattle.policy_rules.specs.Prelude.{ActsIn, Admitted, IsEntryStatusOf, IsSlotStep, OwnFirst, managed_entry_status, thing_in}
use Rattle.card_types.specs.declared.tables.Entry.{Entry}
use Rattle.policy_rules.proofs.EntryStatusJudging.{first_1, first_2, first_3, first_4, issuer_fails, issuer_passes, none_first, one_change, step_other, stepless, steps, tree_change}
use Rattle.card_types.specs.declared.life.LifeMark.{LifeMark}
use Rattle.policy_rules.proofs.entry_status.judge_change.Goals as goal
use Rattle.policy_rules.proofs.entry_status.judge_change.Goals.{After-step_of}

-- the entry that is named is in its slot
entry_at : (c : After-step_of) → thing_in c.args.tables.now.entries.items c.in-Some.slot ≡ Some c.unwrap-entry.result.now
entry_at c = (let there : thing_in c.deref.result.now c.in-Some.slot ≡ Some c.unwrap-entry.result.now = search rules in rw c.deref.ensures.value at there)

-- no rule fails where its life cycle has the step
stepped : (c : After-step_of) (page : ℕ → List ℕ) (admitted : Admitted) → ActsIn page c.args.tables.now c.args.domain admitted
    → IsEntryStatusOf c.args.request.now admitted.command → (life : LifeMark) → IsSlotStep c.args.request.now c.unwrap-entry.result.now life
    → OwnFirst managed_entry_status.judged admitted tt None
stepped c page admitted acts is life step =
    let tables = c.args.tables.now in
    none_first admitted (c.in-Some.ensures.known page admitted c.args.domain acts is)
    (issuer_passes page tables c.args.domain admitted acts c.args.request.now is c.is_issuer.result c.is_issuer.ensures c.if-is_issuer.false)
    ((c.may_set.ensures page admitted acts is c.in-Some.ensures.some).0 c.if-not-may_set.false)
    (steps page tables c.args.domain admitted acts c.args.request.now is c.in-Some.slot c.in-Some.ensures.some c.unwrap-entry.result.now (entry_at c) life step)

pub returns-in_default-clause-refused : goal.returns-in_default-clause-refused
returns-in_default-clause-refused c page admitted acts is = first_1 admitted (c.in_default.ensures.none page admitted c.args.domain acts is)

pub returns-then-is_issuer-clause-refused : goal.returns-then-is_issuer-clause-refused
returns-then-is_issuer-clause-refused c page admitted acts is =
    first_2 admitted (c.in-Some.ensures.known page admitted c.args.domain acts is)
    (issuer_fails page c.args.tables.now c.args.domain admitted acts c.args.request.now is c.is_issuer.result c.is_issuer.ensures c.if-is_issuer.true)

pub returns-then-not-may_set-clause-refused : goal.returns-then-not-may_set-clause-refused
returns-then-not-may_set-clause-refused c page admitted acts is =
    first_3 admitted (c.in-Some.ensures.known page admitted c.args.domain acts is)
    (issuer_passes page c.args.tables.now c.args.domain admitted acts c.args.request.now is c.is_issuer.result c.is_issuer.ensures c.if-is_issuer.false)
    (iff_false (c.may_set.ensures page admitted acts is c.in-Some.ensures.some) c.if-not-may_set.true)

pub returns-in_default-step_of-clause-refused : goal.returns-in_default-step_of-clause-refused
returns-in_default-step_of-clause-refused c page admitted acts is =
    let at = entry_at (goal.at.returns-in_default-step_of-clause-refused c).After-step_of in
    first_4 admitted (c.in-Some.ensures.known page admitted c.args.domain acts is)
    (issuer_passes page c.args.tables.now c.args.domain admitted acts c.args.request.now is c.is_issuer.result c.is_issuer.ensures c.if-is_issuer.false)
    ((c.may_set.ensures page admitted acts is c.in-Some.ensures.some).0 c.if-not-may_set.false)
    (stepless page c.args.tables.now c.args.domain admitted acts c.args.request.now is c.in-Some.slot c.in-Some.ensures.some c.unwrap-entry.result.now at c.in_default-step_of.ensures.none)

pub returns-then-request-clause-passed : goal.returns-then-request-clause-passed
returns-then-request-clause-passed c page admitted acts is =
    stepped (goal.at.returns-then-request-clause-passed c).After-step_of page admitted acts is c.in-Some-step_of.life c.in-Some-step_of.ensures.some

pub returns-else-request-clause-passed : goal.returns-else-request-clause-passed
returns-else-request-clause-passed c page admitted acts is =
    stepped (goal.at.returns-else-request-clause-passed c).After-step_of page admitted acts is c.in-Some-step_of.life c.in-Some-step_of.ensures.some

pub returns-then-request-clause-change : goal.returns-then-request-clause-change
returns-then-request-clause-change c page admitted acts is =
    let at = entry_at (goal.at.returns-then-request-clause-change c).After-step_of in
    tree_change page c.args.tables.now c.args.domain admitted acts c.args.request.now is c.in-Some.slot c.in-Some.ensures.some c.unwrap-entry.result.now at
    c.in-Some-step_of.life c.if-request.true c.in-Some-step_of.ensures.some

pub returns-else-request-clause-change : goal.returns-else-request-clause-change
returns-else-request-clause-change c page admitted acts is =
    let at = entry_at (goal.at.returns-else-request-clause-change c).After-step_of in
    one_change page c.args.tables.now c.args.domain admitted acts c.args.request.now is c.in-Some.slot c.in-Some.ensures.some c.unwrap-entry.result.now at
    c.in-Some-step_of.life c.if-request.false c.in-Some-step_of.ensures.some

pub returns-else-request-clause-other : goal.returns-else-request-clause-other
returns-else-request-clause-other c =
    subst (λ (o : Option Entry). MatchOption o ⊥ (λ slot. slot.life ≢ c.in-Some-step_of.life)) (sym (entry_at (goal.at.returns-else-request-clause-other c).After-step_of))
    (step_other c.args.request.now c.unwrap-entry.result.now c.in-Some-step_of.life c.in-Some-step_of.ensures.some)
