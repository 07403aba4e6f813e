use Rattle.std.proofs.Common.{◌≡◌, ℕ, ◌<◌}
use Rattle.card_types.specs.KeySets.{HasKey}
use Rattle.card_check.proofs.keys.is_only.Given as goal

abbrev pub invariant-loop-other : goal.invariant-loop-other
invariant-loop-other l = (k : ℕ) → k < l.other → HasKey l.keys l.key.owner l.key.version l.key.identifier k → k ≡ l.slot
