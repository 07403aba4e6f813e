use Rattle.std.proofs.Common.{◌∙◌, ◌*◌, ◌/◌, ℕ, refl, ap}
use Rattle.std.proofs.lemmas.List.{take_rest}
use Rattle.cmac_kdf.specs.Blocks.{zero_block}
use Rattle.cmac_kdf.specs.Cmac.{chained, last_block}
use Rattle.cmac_kdf.proofs.CmacLemmas.{cmac_from, blocks_before, last_past}
use Rattle.cmac_kdf.proofs.whole.code_of.Goals as goal

pub returns : goal.returns
returns g c =
    let key = g.K.BlockKey.key_bytes c.args.key.now in
    let m = c.args.message.now in
    let n = c.saturating_sub.result in
    let last : ℕ = n / 16 * 16 in
    cmac_from key c.absorb_blocks.new.chain c.mask.result c.absorb.new.chain m
    (c.absorb_blocks.ensures ∙ ap (chained key zero_block) (blocks_before m n _ c.saturating_sub.ensures refl))
    (c.mask.ensures key c.requires.first c.requires.second ∙ ap (last_block key) (take_rest m last ∙ last_past m n _ c.saturating_sub.ensures refl))
    c.absorb.ensures
