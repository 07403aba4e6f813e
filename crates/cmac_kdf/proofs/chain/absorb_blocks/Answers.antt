use Rattle.std.proofs.Common.{◌∙◌, ap}
use Rattle.std.proofs.lemmas.List.{take_all}
use Rattle.cmac_kdf.specs.Cmac.{chained}
use Rattle.cmac_kdf.proofs.CmacLemmas.{chained_none, chained_more}
use Rattle.cmac_kdf.proofs.chain.absorb_blocks.Goals as goal

pub loop-block-init : goal.loop-block-init
loop-block-init g c = chained_none (g.K.BlockKey.key_bytes c.args.key.now) c.args.chain.now c.as_chunks.result.0.now

pub loop-block-preserved : goal.loop-block-preserved
loop-block-preserved g c =
    chained_more (g.K.BlockKey.key_bytes c.args.key.now) c.args.chain.now c.loop-block.chain c.absorb.new.chain c.as_chunks.result.0.now c.loop-block.block-index
    c.loop-block-test.true c.loop-block.invariant c.absorb.ensures

pub returns : goal.returns
returns g c =
    c.loop-block.invariant
    ∙ ap (chained (g.K.BlockKey.key_bytes c.args.key.now) c.args.chain.now)
    (take_all c.loop-block.block-index c.as_chunks.result.0.now c.loop-block-test.false ∙ c.as_chunks.ensures.front)
