use Rattle.std.proofs.Common.{ℕ, ◌<◌}
use Rattle.content_rules.specs.DeleteObjectFound.{IsFrom, IsInUseIn}
use Rattle.content_rules.proofs.in_use.has_user.Given as goal

abbrev pub invariant-loop-slot : goal.invariant-loop-slot
invariant-loop-slot l = (k : ℕ) → k < l.slot → IsFrom l.tables l.file k → IsInUseIn l.tables l.live k → ⊥
