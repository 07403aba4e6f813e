use Rattle.std.proofs.Common.{◌∙◌, ◌++◌, ap}
use Rattle.cmac_kdf.specs.Derivation.{kdf}
use Rattle.scp03_card.specs.Kept.{Keys}
use Rattle.scp03_card.proofs.OfferLemmas.{kept_card_cryptogram}
use Rattle.scp03_card.proofs.session_keys.SessionKeys.card_cryptogram.Goals as goal

pub returns : goal.returns
returns g c = λ offer has host card.
    c.derived_eight.ensures
    ∙ ap (kdf c.self.inside.mac 0x00 64) c.joined.ensures
    ∙ ap (λ (k : Keys). kdf k.mac 0x00 64 (c.args.host.now ++ c.args.card.now)) c.self.view_is
    ∙ kept_card_cryptogram c.args.self.now offer has c.args.host.now c.args.card.now host card
