use Rattle.card_core.proofs.OfferMade.{body_is}
use Rattle.card_types.specs.Represents.{counter_of}
use Rattle.scp03_card.proofs.OfferLemmas.{last_three}
use Rattle.card_core.proofs.initialize_update.write_offer.Goals as goal

pub returns-clause-written : goal.returns-clause-written
returns-clause-written c page said entry says well at made stands =
    body_is said _ (counter_of c.args.tables.now.entries.items c.args.enc.now) made _ _ _ _ _ _ _ _ _
    (c.write_diversification.ensures.written page said entry says well at)
    c.push.ensures.items
    (rw c.unwrap.ensures at c.try_extend_from_slice.ensures.ok)
    (rw c.unwrap-2.ensures at c.try_extend_from_slice-2.ensures.ok)
    (rw c.unwrap-3.ensures at c.try_extend_from_slice-3.ensures.ok)
    (rw c.unwrap-4.ensures at c.try_extend_from_slice-4.ensures.ok)
    (c.challenge.ensures made stands) (c.cryptogram.ensures made stands)
    (last_three c.args.enc.now.counter c.to_be_bytes.result c.requires.counter c.to_be_bytes.ensures)
