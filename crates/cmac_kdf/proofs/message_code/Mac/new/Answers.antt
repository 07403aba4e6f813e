use Rattle.cmac_kdf.specs.Feeding.{mac_of}
use Rattle.cmac_kdf.proofs.message_code.Mac.new.Goals as goal

pub returns : goal.returns
unfolding mac_of
returns g c =
    let key = g.K.BlockKey.key_bytes c.args.key.now in
    (λ i. record { key = key; state = c.start.ensures key i })
