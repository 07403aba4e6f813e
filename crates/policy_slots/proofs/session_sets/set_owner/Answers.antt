use Rattle.std.proofs.Common.{sym, ◌∙◌}
use Rattle.card_types.proofs.DomainLines.{line_in_slots}
use Rattle.policy_slots.proofs.Options.{none_of_none, some_of_some}
use Rattle.policy_slots.proofs.SessionSets.{owns_above, owns_none, owns_own}
use Rattle.policy_slots.proofs.session_sets.set_owner.Goals as goal

pub first_above-requires-clause-no_loops : goal.first_above-requires-clause-no_loops
first_above-requires-clause-no_loops c =
    let order = c.requires.in_order in
    rw c.deref-3.ensures.value (λ slot entry at. line_in_slots order.page c.args.tables.now order.said order.says order.well slot entry at)

pub returns-then-has_set-clause-some : goal.returns-then-has_set-clause-some
returns-then-has_set-clause-some c page said entry says well at =
    owns_own page c.args.tables.now said says well c.args.domain entry at (rw c.deref.ensures.value at (sym c.has_set.ensures ∙ c.if-has_set.true))

pub returns-clause-some : goal.returns-clause-some
returns-clause-some c page said entry says well at =
    let none = rw c.deref.ensures.value at (sym c.has_set.ensures ∙ c.if-has_set.false) in
    some_of_some c.first_above.result c.first_above.ensures.some (λ owner above.
    owns_above page c.args.tables.now said says well c.args.domain entry at owner none (rw (c.deref-3.ensures.value, c.deref-2.ensures.value) at above))

pub returns-clause-none : goal.returns-clause-none
returns-clause-none c page said entry says well at =
    let none = rw c.deref.ensures.value at (sym c.has_set.ensures ∙ c.if-has_set.false) in
    none_of_none c.first_above.result c.first_above.ensures.none (λ above.
    owns_none page c.args.tables.now said says well c.args.domain entry at none (rw (c.deref-3.ensures.value, c.deref-2.ensures.value) at above))
