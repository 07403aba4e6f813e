use Rattle.std.proofs.Common.{◌≡◌, ◌∙◌, ◌++◌, List, ℕ, ap, subst, take}
use Rattle.std.specs.Prelude.{◌↔◌, IsTrue}
use Rattle.apdu_core.specs.Reply.{status_bytes}
use Rattle.cmac_kdf.specs.Cmac.{cmac}
use Rattle.scp03_card.specs.Kept.{KeptSession}
use Rattle.scp03_card.specs.Protected.{r_mac}
use Rattle.scp03_card.proofs.SessionLemmas.{kept_r_mac}
use Rattle.scp03_host.proofs.ReplyLemmas.{truth_of}
use Rattle.scp03_host.proofs.host_session.HostSession.is_right_mac.Goals as goal

pub returns : goal.returns
returns g c = λ session stands.
    let field : List ℕ = c.args.field.now in
    let status : ℕ = c.args.status.0 in
    let right : take 8 c.reply_mac-right.result ≡ r_mac session field status =
    ap (take 8)
    (c.reply_mac-right.ensures
    ∙ ap (λ (sw : List ℕ). cmac c.self.inside.keys.rmac (c.self.inside.chain ++ field ++ sw)) c.to_bytes.ensures
    ∙ ap (λ (k : KeptSession). cmac k.keys.rmac (k.chain ++ field ++ status_bytes status)) c.self.view_is)
    ∙ kept_r_mac c.args.self.now session stands field status in
    subst (λ (m : List ℕ). IsTrue c.eq.result ↔ (c.args.mac.now ≡ m)) right (truth_of c.eq.result c.args.mac.now (take 8 c.reply_mac-right.result) c.eq.ensures)
