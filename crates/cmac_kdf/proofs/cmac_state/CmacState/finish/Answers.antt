use Rattle.std.proofs.Common.{◌∙◌, ap}
use Rattle.cmac_kdf.specs.Cmac.{last_block}
use Rattle.cmac_kdf.proofs.CmacLemmas.{stands_for, cmac_from}
use Rattle.cmac_kdf.proofs.cmac_state.CmacState.finish.Goals as goal

pub returns : goal.returns
returns g c = λ m e.
    let key = g.K.BlockKey.key_bytes c.args.key.now in
    let stands = stands_for key _ m (c.self.view_is ∙ e) in
    cmac_from key c.self.inside.chain c.mask.result _ m stands.before
    (c.mask.ensures key c.requires.first c.requires.second ∙ ap (last_block key) stands.last) c.absorb.ensures
