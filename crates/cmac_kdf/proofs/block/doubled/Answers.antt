use Rattle.std.proofs.Common.{◌∙◌}
use Rattle.cmac_kdf.proofs.BlockLemmas.{double_of}
use Rattle.cmac_kdf.proofs.block.doubled.Goals as goal

pub returns : goal.returns
returns c = c.to_be_bytes.ensures ∙ double_of c.args.block.now c.from_be_bytes.result (c.fits-block 0) c.from_be_bytes.ensures
