use Rattle.std.proofs.Common.{refl}
use Rattle.aes_block.specs.Inverse.{inv_sbox}
use Rattle.aes_block.proofs.tables.substitute_back.Goals as goal

pub returns : goal.returns
unfolding inv_sbox
returns c = refl
