use Rattle.card_types.proofs.Next.{holds_issuer, holds_entries, holds_files, next_from_least, none_follows}
use Rattle.card_types.proofs.found.next_after.Goals as goal

pub returns-in-Some-clause-some : goal.returns-in-Some-clause-some
returns-in-Some-clause-some c =
    rw c.in-Issuer.is (next_from_least _ _ _ _ _ _ (holds_issuer c.args.tables.now) c.in-Some.found.slot c.in-Some.found.thing.now (rw c.deref.ensures.value at c.in-Some.ensures.some))

pub returns-in-None-clause-none : goal.returns-in-None-clause-none
returns-in-None-clause-none c =
    rw c.in-Issuer.is (none_follows _ _ _ _ _ _ (holds_issuer c.args.tables.now) (rw c.deref.ensures.value at c.in-None.ensures.none))

pub returns-in-Some-least-clause-some : goal.returns-in-Some-least-clause-some
returns-in-Some-least-clause-some c =
    rw c.in-Entries.is (next_from_least _ _ _ _ _ _ (holds_entries c.args.tables.now) c.in-Some-least.found.slot c.in-Some-least.found.thing.now (rw c.deref-in-Entries.ensures.value at c.in-Some-least.ensures.some))

pub returns-in-None-least-clause-none : goal.returns-in-None-least-clause-none
returns-in-None-least-clause-none c =
    rw c.in-Entries.is (none_follows _ _ _ _ _ _ (holds_entries c.args.tables.now) (rw c.deref-in-Entries.ensures.value at c.in-None-least.ensures.none))

pub returns-in-Some-least-2-clause-some : goal.returns-in-Some-least-2-clause-some
returns-in-Some-least-2-clause-some c =
    rw c.in-Files.is (next_from_least _ _ _ _ _ _ (holds_files c.args.tables.now) c.in-Some-least-2.found.slot c.in-Some-least-2.found.thing.now (rw c.deref-in-Files.ensures.value at c.in-Some-least-2.ensures.some))

pub returns-in-None-least-2-clause-none : goal.returns-in-None-least-2-clause-none
returns-in-None-least-2-clause-none c =
    rw c.in-Files.is (none_follows _ _ _ _ _ _ (holds_files c.args.tables.now) (rw c.deref-in-Files.ensures.value at c.in-None-least-2.ensures.none))
