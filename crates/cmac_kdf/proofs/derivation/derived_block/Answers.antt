use Rattle.std.proofs.Common.{◌∙◌, ap}
use Rattle.cmac_kdf.specs.Cmac.{cmac}
use Rattle.cmac_kdf.proofs.DerivationLemmas.{derivation_input}
use Rattle.cmac_kdf.proofs.derivation.derived_block.Goals as goal

pub returns : goal.returns
returns g c =
    c.code_of.ensures
    ∙ ap (cmac (g.K.BlockKey.key_bytes c.args.key.now))
    (derivation_input c.args.constant c.args.bits c.args.i _ c.args.context.now c.to_be_bytes.result c.copy_from_slice.new.self c.copy_from_slice-2.new.self _
    c.to_be_bytes.ensures c.copy_from_slice.ensures.after c.copy_from_slice-2.ensures.after)
