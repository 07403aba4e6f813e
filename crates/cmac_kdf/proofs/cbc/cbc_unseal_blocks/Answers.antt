use Rattle.std.proofs.Common.{◌∙◌, sym, arith}
use Rattle.aes_block.specs.Cipher.{IsBlock}
use Rattle.cmac_kdf.proofs.CbcLemmas.{UnsealsUpTo_none, UnsealsUpTo_more, UnsealsUpTo_all, same_plain}
use Rattle.cmac_kdf.proofs.cbc.cbc_unseal_blocks.Goals as goal

pub loop-i-init : goal.loop-i-init
loop-i-init g c =
    UnsealsUpTo_none (g.K.BlockKey.key_bytes c.args.key.now) c.args.icv.now c.args.buf.now c.told-icv (record { at = λ j. omega (arith, c.type_inv.buf j) })

pub loop-i-preserved : goal.loop-i-preserved
loop-i-preserved g c =
    UnsealsUpTo_more (g.K.BlockKey.key_bytes c.args.key.now) c.args.icv.now c.args.buf.now c.loop-i.buf c.loop-i.chain c.loop-i.i _
    c.loop-i.auto.buf (omega (arith, c.loop-i-test.true)) (omega arith) c.block_at-sealed.result c.unseal.new.block c.xor_block.new.block c.copy_from_slice.new.self c.loop-i.invariant
    c.block_at-sealed.ensures c.unseal.array_long c.unseal.ensures.gives_back c.xor_block.ensures c.xor_block.array_long c.copy_from_slice.ensures.after (record { at = λ j. omega (arith, c.type_inv.buf j) })

pub returns-clause-gives_back : goal.returns-clause-gives_back
returns-clause-gives_back g c =
    UnsealsUpTo_all (g.K.BlockKey.key_bytes c.args.key.now) c.args.icv.now c.args.buf.now c.loop-i.buf c.loop-i.chain c.loop-i.i
    c.loop-i.auto.buf c.requires c.loop-i-test.false c.loop-i.invariant

pub returns-clause-alone : goal.returns-clause-alone
returns-clause-alone g c = λ p bytes long e.
    let icv : IsBlock c.args.icv.now = record { sixteen = c.told-icv; bytes = c.fits-icv } in
    same_plain (g.K.BlockKey.key_bytes c.args.key.now) c.args.icv.now p c.loop-i.buf icv bytes c.loop-i.invariant.bytes (omega (arith, c.requires, long)) (omega (arith, long, c.loop-i.auto.buf))
    (e ∙ sym (returns-clause-gives_back g c))
