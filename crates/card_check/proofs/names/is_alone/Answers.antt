use Rattle.card_types.specs.declared.found.Found.TheVariants.{Entry, File}
use Rattle.card_check.proofs.names.is_alone.Goals as goal

pub returns-then-is_another : goal.returns-then-is_another
returns-then-is_another c =
    let other = c.is_another.ensures.0 c.if-is_another.true in
    (λ yes. cc, λ alone. absurd (other.0 (alone (Entry c.loop-slot.slot) other.1)))

pub returns-then-is_another-2 : goal.returns-then-is_another-2
returns-then-is_another-2 c =
    let other = c.is_another-in-loop-slot-2.ensures.0 c.if-is_another-2.true in
    (λ yes. cc, λ alone. absurd (other.0 (alone (File c.loop-slot-2.slot) other.1)))
