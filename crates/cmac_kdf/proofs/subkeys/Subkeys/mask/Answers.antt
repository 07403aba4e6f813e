use Rattle.std.proofs.Common.{◌∙◌, ap, arith}
use Rattle.std.proofs.lemmas.List.{take_all}
use Rattle.aes_block.specs.Cipher.{xor_bytes}
use Rattle.cmac_kdf.proofs.CmacLemmas.{masked_cut, masked_whole}
use Rattle.cmac_kdf.proofs.subkeys.Subkeys.mask.Goals as goal

pub returns-then-last-eq16 : goal.returns-then-last-eq16
returns-then-last-eq16 c = λ key e1 e2.
    c.xor_block.ensures ∙ ap (xor_bytes c.args.self.now.first) (c.block_at.ensures ∙ take_all 16 c.args.last.now (omega (arith, c.if-last-eq16.true)))
    ∙ masked_whole key c.args.last.now c.args.self.now.first c.if-last-eq16.true e1

pub returns-else-last-eq16 : goal.returns-else-last-eq16
returns-else-last-eq16 c = λ key e1 e2.
    c.xor_block-else-last-eq16.ensures
    ∙ masked_cut key c.args.last.now c.args.self.now.second c.padded_block.result c.requires c.if-last-eq16.false e2 c.padded_block.ensures
