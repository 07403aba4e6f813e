use Rattle.policy_slots.proofs.Options.{none_of_none, some_of_some}
use Rattle.policy_slots.proofs.SessionSets.{not_none, uses_lowest, uses_no_number, uses_numbered}
use Rattle.policy_slots.proofs.session_sets.session_set.Goals as goal

pub returns-in_err-owner-clause-none : goal.returns-in_err-owner-clause-none
returns-in_err-owner-clause-none c page said entry says well at =
    let none = c.in_err-owner.ensures.none page said entry says well at in
    rw c.from_residual.ensures (λ owner counter uses. none owner uses.0)

pub returns-then-version-eq0-clause-some : goal.returns-then-version-eq0-clause-some
returns-then-version-eq0-clause-some c page said entry says well at =
    let owns = c.in_ok-owner.ensures.some page said entry says well at in
    some_of_some c.lowest_set.result c.lowest_set.ensures.some (λ found least.
    rw c.if-version-eq0.true (uses_lowest page c.args.tables.now said says well c.args.domain entry at c.in_ok-owner.owner owns found.slot found.thing.now
    (rw c.deref.ensures.value at least)))

pub returns-then-version-eq0-clause-none : goal.returns-then-version-eq0-clause-none
returns-then-version-eq0-clause-none c page said entry says well at =
    none_of_none c.lowest_set.result c.lowest_set.ensures.none (λ none.
    not_none c.in_ok-owner.owner c.args.tables.now.keys.items c.in_ok-owner.ensures.has_set (rw c.deref.ensures.value at none))

pub returns-else-version-eq0-clause-some : goal.returns-else-version-eq0-clause-some
returns-else-version-eq0-clause-some c page said entry says well at =
    let owns = c.in_ok-owner.ensures.some page said entry says well at in
    some_of_some c.numbered_set.result c.numbered_set.ensures.some (λ found least.
    uses_numbered page c.args.tables.now said says well c.args.domain entry at c.in_ok-owner.owner owns c.args.version found.slot found.thing.now
    c.if-version-eq0.false (rw c.deref-else-version-eq0.ensures.value at least))

pub returns-else-version-eq0-clause-none : goal.returns-else-version-eq0-clause-none
returns-else-version-eq0-clause-none c page said entry says well at =
    let owns = c.in_ok-owner.ensures.some page said entry says well at in
    none_of_none c.numbered_set.result c.numbered_set.ensures.none (λ none.
    uses_no_number page c.args.tables.now said says well c.args.domain entry at c.in_ok-owner.owner owns c.args.version
    c.if-version-eq0.false c.in_ok-owner.ensures.has_set (rw c.deref-else-version-eq0.ensures.value at none))
