use Rattle.std.proofs.Common.{arith}
use Rattle.card_core.proofs.OfferMade.{none_named}
use Rattle.card_core.proofs.initialize_update.diversification.Goals as goal

pub returns-in-Ok-Object-clause-some : goal.returns-in-Ok-Object-clause-some
returns-in-Ok-Object-clause-some c page said entry says well at =
    (rw c.in-Ok-Object.field-0-is at (c.in-Ok-Object.ensures.found page said entry says well at)).4

pub returns-in-Ok-Keys-clause-none : goal.returns-in-Ok-Keys-clause-none
returns-in-Ok-Keys-clause-none c page said entry says well at =
    (let is = rw c.in-Ok-Keys.field-0-is at (c.in-Ok-Keys.ensures.found page said entry says well at) in
    absurd (omega (arith, is.0)))

pub returns-in-Ok-Counter-clause-none : goal.returns-in-Ok-Counter-clause-none
returns-in-Ok-Counter-clause-none c page said entry says well at =
    (let is = rw c.in-Ok-Counter.field-0-is at (c.in-Ok-Counter.ensures.found page said entry says well at) in
    absurd (omega (arith, is.0)))

pub returns-in-Err-clause-none : goal.returns-in-Err-clause-none
returns-in-Err-clause-none c page said entry says well at = none_named said _ (c.in-Err.ensures.none page said entry says well at)
