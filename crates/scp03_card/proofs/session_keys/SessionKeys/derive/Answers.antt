use Rattle.std.proofs.Common.{◌∙◌, refl}
use Rattle.scp03_card.specs.Offer.{Offer}
use Rattle.scp03_card.proofs.OfferLemmas.{is_s_enc, is_s_mac, is_s_rmac}
use Rattle.scp03_card.proofs.session_keys.SessionKeys.derive.Goals as goal

pub returns : goal.returns
returns g c =
    let o : Offer = record { enc = c.args.enc.now; mac = c.args.mac.now; dek = g.K.BlockKey.key_bytes c.args.dek; host = c.args.host.now; card = c.args.card.now } in
    let context = c.joined-context.ensures in
    record {
      enc = is_s_enc o _ _ context _ _ refl c.requires.enc c.session_key.ensures;
      mac = is_s_mac o _ _ context _ _ refl c.requires.mac (c.new.ensures ∙ c.session_key-2.ensures);
      rmac = is_s_rmac o _ _ context _ _ refl c.requires.mac (c.new-2.ensures ∙ c.session_key-3.ensures);
      dek = refl;
    }
