use Rattle.std.proofs.Common.{◌≡◌, ◌∙◌, ap, sym, ℕ, List}
use Rattle.cmac_kdf.specs.Cmac.{cmac}
use Rattle.cmac_kdf.specs.Feeding.{state_of}
use Rattle.cmac_kdf.proofs.CmacLemmas.{mac_parts}
use Rattle.cmac_kdf.proofs.message_code.Mac.finish.Goals as goal

pub returns : goal.returns
returns g c = λ key m e.
    let parts = mac_parts key m _ _ (c.self.view_is ∙ e) in
    let held : c.self.inside.state ≡ state_of (g.K.BlockKey.key_bytes c.self.inside.key.now) m = parts.1 ∙ ap (λ (k : List ℕ). state_of k m) (sym parts.0) in
    c.finish.ensures m held ∙ ap (λ (k : List ℕ). cmac k m) parts.0
