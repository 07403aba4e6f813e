use Rattle.std.proofs.Common.{◌≡◌, ℕ, ◌<◌}
use Rattle.card_check.specs.CardSlots.{HasObject}
use Rattle.card_check.proofs.objects.is_only.Given as goal

abbrev pub invariant-loop-other : goal.invariant-loop-other
invariant-loop-other l = (k : ℕ) → k < l.other → HasObject l.objects l.object.owner l.object.tag k → k ≡ l.slot
