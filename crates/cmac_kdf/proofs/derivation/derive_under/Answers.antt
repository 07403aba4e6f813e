use Rattle.std.proofs.Common.{◌∙◌, refl}
use Rattle.cmac_kdf.proofs.DerivationLemmas.{kdf_one, kdf_two}
use Rattle.cmac_kdf.proofs.derivation.derive_under.Goals as goal

pub returns-then-len-le16 : goal.returns-then-len-le16
returns-then-len-le16 g c =
    c.copy_from_slice.ensures.after
    ∙ kdf_one (g.K.BlockKey.key_bytes c.args.key.now) c.args.context.now c.args.constant _ c.derived_block-first.result c.requires.some c.if-len-le16.true c.derived_block-first.ensures

pub returns : goal.returns
returns g c =
    kdf_two (g.K.BlockKey.key_bytes c.args.key.now) c.args.context.now c.args.constant _ c.derived_block-first.result c.derived_block-second.result c.args.out.now
    c.copy_from_slice-2.new.self c.copy_from_slice-3.new.self _ refl c.if-len-le16.false c.requires.most c.derived_block-first.ensures c.derived_block-second.ensures
    c.copy_from_slice-2.ensures.after c.copy_from_slice-3.ensures.after refl
