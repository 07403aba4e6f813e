use Rattle.std.proofs.Common.{sym, ◌∙◌}
use Rattle.std.proofs.lemmas.Bool.{false_from_ne_true, not-true, not_from_false}
use Rattle.policy_slots.proofs.HoldsTold.{holds_told, lacks_told}
use Rattle.content_rules.proofs.delete_object.deletes_as_delegate.Goals as goal

pub returns-then-holds : goal.returns-then-holds
returns-then-holds c page admitted acts =
    let tables = c.args.tables.now in
    let manages = holds_told page tables c.args.domain admitted acts _ c.holds.result (rw c.deref.ensures.value at c.holds.ensures) in
    let deletes = holds_told page tables c.args.domain admitted acts _ c.holds-then-holds.result (rw c.deref-then-holds.ensures.value at c.holds-then-holds.ensures) in
    let lacks = lacks_told page tables c.args.domain admitted acts _ c.holds-then-holds.result (rw c.deref-then-holds.ensures.value at c.holds-then-holds.ensures) in (
      λ so. (manages.0 c.if-holds.true, lacks (not-true c.holds-then-holds.result so)),
      λ delegated. not_from_false c.holds-then-holds.result (false_from_ne_true c.holds-then-holds.result (λ has. delegated.1 (deletes.0 has))),
    )

pub returns-else-holds : goal.returns-else-holds
returns-else-holds c page admitted acts =
    let lacks = lacks_told page c.args.tables.now c.args.domain admitted acts _ c.holds.result (rw c.deref.ensures.value at c.holds.ensures) c.if-holds.false in (
      λ so. (let clash = sym so ∙ c.if-holds.false in cc),
      λ delegated. absurd (lacks delegated.0),
    )
