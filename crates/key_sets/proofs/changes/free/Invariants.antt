use Rattle.std.proofs.Common.{◌≡◌, ℕ, ◌<◌, false, length}
use Rattle.card_types.specs.Represents.{thing_in}
use Rattle.card_types.specs.declared.limits.TheConstants.{KEYS}
use Rattle.key_rules.specs.InSlots.{holds_one_of}
use Rattle.key_rules.specs.Staying.{staying}
use Rattle.key_sets.proofs.changes.free.Given as goal

abbrev pub invariant-loop-slot : goal.invariant-loop-slot
invariant-loop-slot g l =
    let R = g.R.RecordKeeper in
    record {
      roomy : R.roomy l.keeper;
      same_else : R.same_else l.fn.keeper l.keeper;
      count : length (R.slots l.keeper) ≡ length (R.slots l.fn.keeper);
      all : 0 < l.slot → length (R.slots l.keeper) ≡ KEYS;
      stay : staying l.owner l.version (R.slots l.keeper) ≡ staying l.owner l.version (R.slots l.fn.keeper);
      gone : (k : ℕ) → k < l.slot → holds_one_of l.owner l.version (thing_in (R.slots l.keeper) k) ≡ false;
    }
