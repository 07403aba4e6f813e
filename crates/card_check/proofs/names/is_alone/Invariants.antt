use Rattle.std.proofs.Common.{◌≡◌, ℕ, ◌<◌, Some}
use Rattle.card_types.specs.Found.{aid_of}
use Rattle.card_types.specs.declared.found.Found.TheVariants.{Entry, File}
use Rattle.card_check.proofs.names.is_alone.Given as goal

abbrev pub invariant-loop-slot : goal.invariant-loop-slot
invariant-loop-slot l = (k : ℕ) → k < l.slot → aid_of l.tables (Entry k) ≡ Some l.aid → Entry k ≡ l.this

abbrev pub invariant-loop-slot-2 : goal.invariant-loop-slot-2
invariant-loop-slot-2 l = (k : ℕ) → k < l.slot → aid_of l.tables (File k) ≡ Some l.aid → File k ≡ l.this
