use Rattle.std.proofs.Common.{◌≡◌, ◌<◌, length}
use Rattle.card_types.specs.declared.limits.TheConstants.{ENTRIES}
use Rattle.rec_store.specs.Places.{entry_page}
use Rattle.rec_store.specs.Places.{entry_pages}
use Rattle.registry.specs.Pages.{KeepsRoom}
use Rattle.registry.specs.Tree.{SameButEntries}
use Rattle.registry.proofs.Marking.{IsMarked}
use Rattle.registry.proofs.Staging.{IsStaged}
use Rattle.registry.proofs.locking.lock_tree.Given as goal

abbrev pub invariant-loop-slot : goal.invariant-loop-slot
invariant-loop-slot g l = record {
  same : SameButEntries l.fn.records l.records;
  marked : IsMarked l.fn.records.tables.entries.items l.records.tables.entries.items l.domain l.locked l.slot;
  all : 0 < l.slot → length l.records.tables.entries.items ≡ ENTRIES;
  staged : IsStaged entry_page l.fn.records.staged l.records.staged l.fn.records.tables.entries.items l.records.tables.entries.items l.slot;
  room : KeepsRoom entry_pages l.fn.records.staged l.records.staged;
}
