use Rattle.std.proofs.Common.{arith}
use Rattle.cmac_kdf.proofs.BlockLemmas.{xor_from_places}
use Rattle.cmac_kdf.proofs.block.xor_block.Goals as goal

pub returns : goal.returns
returns c =
    xor_from_places c.args.block.now c.args.with.now c.loop-i.block c.told-block c.told-with c.loop-i.invariant.0
    (λ k h. c.loop-i.invariant.1 k (omega arith))
