use Rattle.std.proofs.Common.{inl, inr, refl}
use Rattle.std.proofs.lemmas.Bool.{iff_false}
use Rattle.policy_machine.proofs.Approved.{receipt_rule}
use Rattle.policy_slots.proofs.HoldsTold.{holds_told, lacks_told}
use Rattle.policy_slots.proofs.ReceiptPasses.{receipt_passes}
use Rattle.content_rules.proofs.load.judge_loaded_by.Goals as goal

pub returns-then-is_foreign-clause-refused : goal.returns-then-is_foreign-clause-refused
returns-then-is_foreign-clause-refused c page admitted acts is_for = inl ((c.is_foreign.ensures page admitted acts is_for).0 c.if-is_foreign.true, refl)

pub returns-then-not-holds-clause-passed : goal.returns-then-not-holds-clause-passed
returns-then-not-holds-clause-passed c page admitted acts is_for =
    let held_so = rw c.deref.ensures.value at c.holds.ensures in
    let own = iff_false (c.is_foreign.ensures page admitted acts is_for) c.if-is_foreign.false in
    let lacks = lacks_told page c.args.tables.now c.args.domain admitted acts (record { 0 = 0x200000 }) c.holds.result held_so c.if-not-holds.true in
    inr (own, inr (λ (last, holds, receipt). lacks holds, refl))

pub returns-then-not-holds-clause-receipter : goal.returns-then-not-holds-clause-receipter
returns-then-not-holds-clause-receipter c page admitted acts =
    let held_so = rw c.deref.ensures.value at c.holds.ensures in
    inr (lacks_told page c.args.tables.now c.args.domain admitted acts (record { 0 = 0x200000 }) c.holds.result held_so c.if-not-holds.true, refl)

pub returns-in-Ok-clause-passed : goal.returns-in-Ok-clause-passed
returns-in-Ok-clause-passed c page admitted acts is_for =
    let own = iff_false (c.is_foreign.ensures page admitted acts is_for) c.if-is_foreign.false in
    inr (
      own,
      inr (
        λ (last, holds, receipt). receipt_passes page c.args.tables.now c.args.domain admitted acts c.in-Ok.found (c.in-Ok.ensures.found page admitted acts) receipt,
        refl,
      ),
    )

pub returns-in-Ok-clause-receipter : goal.returns-in-Ok-clause-receipter
returns-in-Ok-clause-receipter c page admitted acts =
    let held_so = rw c.deref.ensures.value at c.holds.ensures in
    let holds = (holds_told page c.args.tables.now c.args.domain admitted acts (record { 0 = 0x200000 }) c.holds.result held_so).0 c.if-not-holds.false in
    inl (holds, c.in-Ok.ensures.found page admitted acts)

pub returns-in-Err-clause-refused : goal.returns-in-Err-clause-refused
returns-in-Err-clause-refused c page admitted acts is_for =
    let held_so = rw c.deref.ensures.value at c.holds.ensures in
    let own = iff_false (c.is_foreign.ensures page admitted acts is_for) c.if-is_foreign.false in
    let holds = (holds_told page c.args.tables.now c.args.domain admitted acts (record { 0 = 0x200000 }) c.holds.result held_so).0 c.if-not-holds.false in
    inr (own, inl ((is_for.last, holds, receipt_rule admitted c.in-Err.field-0 (c.in-Err.ensures.refused page admitted acts)), refl))
