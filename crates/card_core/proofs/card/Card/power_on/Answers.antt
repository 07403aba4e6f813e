use Rattle.card_core.proofs.Over.{mounted_stands, powered_some}
use Rattle.card_core.proofs.card.Card.power_on.Goals as goal

pub returns-in-Ok-clause-stands : goal.returns-in-Ok-clause-stands
returns-in-Ok-clause-stands g c =
    mounted_stands g.F.Flash c.powered_on.result c.powered_on.ensures.live c.powered_on.ensures.sessions
    c.args.flash c.in-Ok.records.flash c.in-Ok.records.tables c.in-Ok.ensures.card c.in-Ok.ensures.says

pub invariant_of-result : goal.invariant_of-result
invariant_of-result g c = (
  c.in-Ok.ensures.card,
  λ live. (
    record { live = c.in-Ok.ensures.ready.1; staged = c.in-Ok.ensures.ready.0; writes = c.powered_on.ensures.writes; spare = c.in-Ok.ensures.spare },
    powered_some g.F.Flash c.powered_on.result c.powered_on.ensures.live c.powered_on.ensures.sessions c.in-Ok.records.tables c.in-Ok.ensures.card,
  ),
)
