use Rattle.card_check.proofs.CardFromSlots.{card_from_slots}
use Rattle.card_check.proofs.CardNeeds.{slots_of_card}
use Rattle.card_check.proofs.card.is_card.Goals as goal

pub returns : goal.returns
returns c page whole = (
  λ done. card_from_slots page whole c.args.tables.now (c.has_card_slots.ensures.is.0 done) (c.has_card_slots.ensures.arrays done),
  λ card. c.has_card_slots.ensures.is.1 (slots_of_card page c.args.tables.now card),
)
