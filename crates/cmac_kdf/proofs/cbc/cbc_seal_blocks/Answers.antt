use Rattle.std.proofs.Common.{◌∙◌, ap, List, ℕ, arith}
use Rattle.aes_block.specs.Cipher.{xor_bytes}
use Rattle.cmac_kdf.proofs.CbcLemmas.{SealsUpTo_none, SealsUpTo_more, SealsUpTo_all}
use Rattle.cmac_kdf.proofs.cbc.cbc_seal_blocks.Goals as goal

pub loop-i-init : goal.loop-i-init
loop-i-init g c = SealsUpTo_none (g.K.BlockKey.key_bytes c.args.key.now) c.args.icv.now c.args.buf.now

pub loop-i-preserved : goal.loop-i-preserved
loop-i-preserved g c =
    SealsUpTo_more (g.K.BlockKey.key_bytes c.args.key.now) c.args.icv.now c.args.buf.now c.loop-i.buf c.loop-i.chain c.loop-i.i _
    c.loop-i.auto.buf (omega (arith, c.loop-i-test.true)) (omega arith) c.xor_block.new.block c.seal.new.block c.copy_from_slice.new.self c.loop-i.invariant
    (c.xor_block.ensures ∙ ap (λ (b : List ℕ). xor_bytes b c.loop-i.chain) c.block_at-block.ensures) c.seal.ensures.sealed c.copy_from_slice.ensures.after

pub returns : goal.returns
returns g c =
    SealsUpTo_all (g.K.BlockKey.key_bytes c.args.key.now) c.args.icv.now c.args.buf.now c.loop-i.buf c.loop-i.chain c.loop-i.i
    c.loop-i.auto.buf c.requires c.loop-i-test.false c.loop-i.invariant
