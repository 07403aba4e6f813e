use Rattle.std.proofs.Common.{◌≡◌, ℕ, ◌<◌, false, length}
use Rattle.std.specs.Prelude.{map}
use Rattle.card_types.specs.Represents.{thing_in}
use Rattle.registry.specs.Pages.{KeepsRoom}
use Rattle.registry.specs.Removing.{is_owned, slot_without}
use Rattle.registry.proofs.Staging.{IsStaged}
use Rattle.registry.proofs.owned.free_owned.Given as goal

abbrev pub invariant-loop-slot : goal.invariant-loop-slot
invariant-loop-slot g l =
    let kind = g.T.Owned in
    let start = kind.slots l.fn.records.tables in
    let slots = kind.slots l.records.tables in
    record {
      rest : kind.rest l.records.tables ≡ kind.rest l.fn.records.tables;
      same : (l.records.flash ≡ l.fn.records.flash) × (l.records.live ≡ l.fn.records.live);
      staged : IsStaged kind.page l.fn.records.staged l.records.staged start slots l.slot;
      room : KeepsRoom kind.pages l.fn.records.staged l.records.staged;
      all : 0 < l.slot → length slots ≡ kind.COUNT;
      left : map (slot_without kind.owner l.owner) slots ≡ map (slot_without kind.owner l.owner) start;
      after : (k : ℕ) → (k < l.slot → ⊥) → thing_in slots k ≡ thing_in start k;
      gone : (k : ℕ) → k < l.slot → is_owned kind.owner l.owner (thing_in slots k) ≡ false;
    }
