use Rattle.std.proofs.Common.{ℕ, ◌<◌}
use Rattle.content_rules.specs.Prelude.{Above, IsFrom, domain_slot}
use Rattle.content_rules.proofs.in_use.has_stranger.Given as goal

abbrev pub invariant-loop-slot : goal.invariant-loop-slot
invariant-loop-slot l = (k : ℕ) → k < l.slot → IsFrom l.tables l.file k → (Above (domain_slot l.tables.entries.items) l.domain k → ⊥) → ⊥
