use Rattle.card_types.proofs.LifeChanges.{card_life_keeps, life_keeps, locks_keep, receipts_keep}
use Rattle.card_types.proofs.laws.changes_keep_order.Goals as goal

pub returns : goal.returns
returns c = record { life = life_keeps; locks = locks_keep; receipts = receipts_keep; card_life = card_life_keeps }
