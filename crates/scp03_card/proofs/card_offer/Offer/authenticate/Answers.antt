use Rattle.std.proofs.Common.{◌≡◌, ◌∙◌, ap, subst, sym, arith, take, drop}
use Rattle.std.proofs.lemmas.List.{length-drop, take_all}
use Rattle.scp03_card.specs.Kept.{KeptOffer, RepresentsOffer}
use Rattle.scp03_card.proofs.card_offer.Offer.authenticate.Goals as goal

pub returns-clause-mac_right : goal.returns-clause-mac_right
returns-clause-mac_right g c = λ offer stands.
    let has = subst (λ (o : KeptOffer). RepresentsOffer o offer) (sym c.self.view_is) stands in
    let whole : take 8 (drop 8 c.args.body.now) ≡ drop 8 c.args.body.now = take_all 8 (drop 8 c.args.body.now) (omega (arith, length-drop 8 c.args.body.now, c.told-body)) in
    sym whole ∙ c.same-2.ensures.0 c.if-not-same-2.false ∙ ap (take 8) (c.first_chain-chain.ensures offer has.keys (c.host_cryptogram-cryptogram.ensures offer has.keys has.host has.card))
