use Rattle.std.proofs.Common.{◌≡◌, take}
use Rattle.cmac_kdf.specs.Cmac.{chained}
use Rattle.cmac_kdf.proofs.chain.absorb_blocks.Given as goal

abbrev pub invariant-loop-block : goal.invariant-loop-block
invariant-loop-block g l = l.chain ≡ chained (g.K.BlockKey.key_bytes l.key) l.fn.chain (take l.block-index l.whole)
