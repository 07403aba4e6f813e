use Rattle.cmac_kdf.proofs.PaddingLemmas.{block_padded}
use Rattle.cmac_kdf.proofs.padding.padded_block.Goals as goal

pub returns : goal.returns
returns c = block_padded c.copy_from_slice.new.self c.args.bytes.now c.copy_from_slice.ensures.after c.requires
