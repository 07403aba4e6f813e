use Rattle.std.proofs.Common.{sym, subst}
use Rattle.card_core.proofs.Cards.{in_order}
use Rattle.card_core.specs.Kept.{AreCards}
use Rattle.card_core.proofs.card.Card.tables.Goals as goal

pub returns-clause-cards : goal.returns-clause-cards
returns-clause-cards g c = subst AreCards (sym c.tables.ensures.tables) c.self.invariant.0

pub returns-clause-in_order : goal.returns-clause-in_order
returns-clause-in_order g c = in_order c.tables.result.now (returns-clause-cards g c)
