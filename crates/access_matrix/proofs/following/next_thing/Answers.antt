use Rattle.std.specs.Prelude.{option_copied}
use Rattle.std.proofs.lemmas.Cmp.{nat_list_cmp_total}
use Rattle.card_types.proofs.NotAbove.{not_above_third, not_below}
use Rattle.access_matrix.proofs.Scans.{entry_is_next, file_is_next, no_next_thing, not_above_chain}
use Rattle.access_matrix.proofs.following.next_thing.Goals as goal

pub returns-then-is_below-clause-some : goal.returns-then-is_below-clause-some
returns-then-is_below-clause-some c =
    let entry = rw (c.in-Some-Some.is-0, c.deref.ensures.value) at c.least-entry.ensures.some in
    let file = rw (c.in-Some-Some.is-1, c.deref-2.ensures.value) at c.least-file.ensures.some in
    file_is_next c.args.tables.now (option_copied c.args.after) c.in-Some-Some.file.slot c.in-Some-Some.file.thing.now file (λ other another at fits.
    not_above_third nat_list_cmp_total _ c.in-Some-Some.entry.thing.now.aid _ (c.is_below.ensures.0 c.if-is_below.true) (entry.least other another at fits))

pub returns-else-is_below-clause-some : goal.returns-else-is_below-clause-some
returns-else-is_below-clause-some c =
    let entry = rw (c.in-Some-Some.is-0, c.deref.ensures.value) at c.least-entry.ensures.some in
    let file = rw (c.in-Some-Some.is-1, c.deref-2.ensures.value) at c.least-file.ensures.some in
    entry_is_next c.args.tables.now (option_copied c.args.after) c.in-Some-Some.entry.slot c.in-Some-Some.entry.thing.now entry (λ other another at fits.
    not_above_chain c.in-Some-Some.entry.thing.now.aid c.in-Some-Some.file.thing.now.aid another.aid
    (not_below nat_list_cmp_total c.in-Some-Some.file.thing.now.aid c.in-Some-Some.entry.thing.now.aid (λ less. (let yes = c.is_below.ensures.1 less in cc)))
    (file.least other another at fits))

pub returns-in-Some-None-clause-some : goal.returns-in-Some-None-clause-some
returns-in-Some-None-clause-some c =
    let entry = rw (c.in-Some-None.is-0, c.deref.ensures.value) at c.least-entry.ensures.some in
    let none = rw (c.in-Some-None.is-1, c.deref-2.ensures.value) at c.least-file.ensures.none in
    entry_is_next c.args.tables.now (option_copied c.args.after) c.in-Some-None.entry.slot c.in-Some-None.entry.thing.now entry
    (λ other another at fits. absurd (none other another at fits))

pub returns-in-None-Some-clause-some : goal.returns-in-None-Some-clause-some
returns-in-None-Some-clause-some c =
    let none = rw (c.in-None-Some.is-0, c.deref.ensures.value) at c.least-entry.ensures.none in
    let file = rw (c.in-None-Some.is-1, c.deref-2.ensures.value) at c.least-file.ensures.some in
    file_is_next c.args.tables.now (option_copied c.args.after) c.in-None-Some.file.slot c.in-None-Some.file.thing.now file
    (λ other another at fits. absurd (none other another at fits))

pub returns-in-None-None-clause-none : goal.returns-in-None-None-clause-none
returns-in-None-None-clause-none c =
    no_next_thing c.args.tables.now (option_copied c.args.after) (rw (c.in-None-None.is-0, c.deref.ensures.value) at c.least-entry.ensures.none)
    (rw (c.in-None-None.is-1, c.deref-2.ensures.value) at c.least-file.ensures.none)
