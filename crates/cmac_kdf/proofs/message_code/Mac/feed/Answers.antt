use Rattle.std.proofs.Common.{◌≡◌, ◌∙◌, ◌++◌, ap, sym, ℕ, List}
use Rattle.cmac_kdf.specs.Feeding.{state_of, mac_of}
use Rattle.cmac_kdf.proofs.CmacLemmas.{mac_parts}
use Rattle.cmac_kdf.proofs.message_code.Mac.feed.Goals as goal

pub returns : goal.returns
unfolding mac_of
returns g c = λ key m e.
    let parts = mac_parts key m _ _ (c.self.view_is ∙ e) in
    let held : c.self.inside.state ≡ state_of (g.K.BlockKey.key_bytes c.self.inside.key.now) m = parts.1 ∙ ap (λ (k : List ℕ). state_of k m) (sym parts.0) in
    (λ i. record { key = parts.0 i; state = (c.feed.ensures m held ∙ ap (λ (k : List ℕ). state_of k (m ++ c.args.bytes.now)) parts.0) i })
