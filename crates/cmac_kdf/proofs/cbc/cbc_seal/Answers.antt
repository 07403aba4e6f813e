use Rattle.std.proofs.Common.{◌≡◌, ◌∙◌, ap, take, length, arith}
use Rattle.std.proofs.lemmas.List.{take_at, length-take-le}
use Rattle.cmac_kdf.specs.Cbc.{cbc, sealed}
use Rattle.cmac_kdf.proofs.cbc.cbc_seal.Goals as goal

pub returns-clause-sealed : goal.returns-clause-sealed
unfolding sealed
returns-clause-sealed g c =
    let long : length (take c.pad-end.result c.pad-end.new.bytes) ≡ c.pad-end.result =
    length-take-le c.pad-end.result c.pad-end.new.bytes (omega (arith, c.pad-end.ensures.length, c.pad-end.auto.bytes, c.requires)) in
    take_at c.cbc_seal_blocks.new.buf _ c.pad-end.result (c.cbc_seal_blocks.auto.buf ∙ long) ∙ c.cbc_seal_blocks.ensures
    ∙ ap (cbc (g.K.BlockKey.key_bytes c.args.key.now) c.args.icv.now) c.pad-end.ensures.padded
