use Rattle.std.proofs.Common.{◌≡◌, ℕ, ◌+◌, List, Option, None, Some, subst, sym, ◌∙◌, arith}
use Rattle.std.specs.Prelude.{IfSome, option_copied}
use Rattle.policy_rules.specs.Prelude.{Admitted, IsListedAt, aid_of}
use Rattle.card_types.specs.declared.found.Found.{Found}
use Rattle.card_types.specs.declared.limits.TheConstants.{ENTRIES}
use Rattle.policy_rules.proofs.GetStatusListed.{IsLeastBefore, lower_named, next_from_least, none_from_least, none_more, one_aid, one_more}
use Rattle.policy_rules.proofs.get_status.next_shown.Goals.{in-Some, in_default}
use Rattle.policy_rules.proofs.get_status.next_shown.Goals as goal

pub loop-slot-preserved : goal.loop-slot-preserved
loop-slot-preserved c =
    let tables = c.args.tables.now in
    let listed : (ℕ → List ℕ) → Admitted → Found → List ℕ → Type 0
    = λ page admitted. IsListedAt page tables admitted c.args.kind c.args.partial.now (option_copied c.args.after) in
    elim c.match-listed_aid.branch [
      | in-Some w ↦ (
        subst (λ (least : Option (Found × List ℕ)). IfSome least (λ named. aid_of tables named.0 ≡ Some named.1)) (sym (w.least-is ∙ (λ i. Some (w.lower.ensures i))))
            (lower_named tables c.loop-slot.least c.in_kind-thing.result w.in-Some.aid c.loop-slot.invariant.0 w.in-Some.ensures.named),
        λ page admitted acts.
            (let here = w.in-Some.ensures.some page admitted acts in
            let more = one_more (listed page admitted) c.args.kind c.loop-slot.slot w.in-Some.aid
            (subst (λ (thing : Found). listed page admitted thing w.in-Some.aid) c.in_kind-thing.ensures here)
            (λ other is. one_aid page tables c.args.domain admitted acts c.args.kind c.args.partial.now (option_copied c.args.after) c.in_kind-thing.result w.in-Some.aid other
            w.in-Some.ensures.named (subst (λ (thing : Found). listed page admitted thing other) (sym c.in_kind-thing.ensures) is))
            c.loop-slot.least (c.loop-slot.invariant.1 page admitted acts) in
            subst (IsLeastBefore (listed page admitted) c.args.kind (c.loop-slot.slot + 1)) (sym (w.least-is ∙ (λ i. Some (w.lower.ensures i))))
            (rw c.in_kind-thing.ensures more)),
      )
      | in_default w ↦ (
        subst (λ (least : Option (Found × List ℕ)). IfSome least (λ named. aid_of tables named.0 ≡ Some named.1)) (sym w.least-is) c.loop-slot.invariant.0,
        λ page admitted acts.
            subst (IsLeastBefore (listed page admitted) c.args.kind (c.loop-slot.slot + 1)) (sym w.least-is)
            (none_more (listed page admitted) c.args.kind c.loop-slot.slot c.loop-slot.least (c.loop-slot.invariant.1 page admitted acts)
            (λ aid is. w.in_default.ensures.none page admitted aid acts (subst (λ (thing : Found). listed page admitted thing aid) (sym c.in_kind-thing.ensures) is))),
      )
    ]

pub returns-in-Some-least-clause-some : goal.returns-in-Some-least-clause-some
returns-in-Some-least-clause-some c page admitted acts =
    let end : c.loop-slot.slot ≡ ENTRIES = omega (arith, c.loop-slot-test.false, c.loop-slot.auto.slot-end) in
    let listed = IsListedAt page c.args.tables.now admitted c.args.kind c.args.partial.now (option_copied c.args.after) in
    next_from_least page c.args.tables.now c.args.domain admitted acts c.args.kind c.args.partial.now (option_copied c.args.after) c.requires.in_order.layout
    c.in-Some-least.thing c.in-Some-least.field-0-1
    (subst (λ (number : ℕ). IsLeastBefore listed c.args.kind number (Some (c.in-Some-least.thing, c.in-Some-least.field-0-1))) end
    (subst (IsLeastBefore listed c.args.kind c.loop-slot.slot) c.in-Some-least.is (c.loop-slot.invariant.1 page admitted acts)))

pub returns-in-None-clause-none : goal.returns-in-None-clause-none
returns-in-None-clause-none c page admitted acts =
    let end : c.loop-slot.slot ≡ ENTRIES = omega (arith, c.loop-slot-test.false, c.loop-slot.auto.slot-end) in
    let listed = IsListedAt page c.args.tables.now admitted c.args.kind c.args.partial.now (option_copied c.args.after) in
    none_from_least page c.args.tables.now c.args.domain admitted acts c.args.kind c.args.partial.now (option_copied c.args.after) c.requires.in_order.layout
    (subst (λ (number : ℕ). IsLeastBefore listed c.args.kind number None) end
    (subst (IsLeastBefore listed c.args.kind c.loop-slot.slot) c.in-None.is (c.loop-slot.invariant.1 page admitted acts)))
