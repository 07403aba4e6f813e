use Rattle.card_core.proofs.Over.{powered_some, reset_stands}
use Rattle.card_core.proofs.card.Card.reset.Goals as goal

pub returns-clause-stands : goal.returns-clause-stands
returns-clause-stands g c state stood =
    let stands = rw (← c.self.view_is) at stood in
    reset_stands g.F.Flash c.powered_on-self-inside.result c.powered_on-self-inside.ensures.live c.powered_on-self-inside.ensures.sessions
    (record { flash = c.self.inside.records.flash; tables = c.self.inside.records.tables; channels = c.self.inside.channels; live = c.self.inside.live })
    state c.self.invariant.0 stands

pub invariant_of-self : goal.invariant_of-self
invariant_of-self g c = (
  c.self.invariant.0,
  λ live. (
    record { live = (c.self.invariant.1 live).0.live; staged = (c.self.invariant.1 live).0.staged; writes = c.powered_on-self-inside.ensures.writes; spare = (c.self.invariant.1 live).0.spare },
    powered_some g.F.Flash c.powered_on-self-inside.result c.powered_on-self-inside.ensures.live c.powered_on-self-inside.ensures.sessions c.self.inside.records.tables c.self.invariant.0,
  ),
)
