use Rattle.std.proofs.Common.{◌≡◌, ◌∙◌, ◌++◌, List, ℕ, ap, sym, take, true}
use Rattle.apdu_core.specs.Reply.{status_bytes}
use Rattle.cmac_kdf.specs.Cmac.{cmac}
use Rattle.scp03_card.specs.Kept.{KeptSession}
use Rattle.scp03_card.specs.Levels.{has_r_mac}
use Rattle.scp03_card.specs.Protected.{r_mac, reply_field}
use Rattle.scp03_card.proofs.SessionLemmas.{kept_r_mac, protected_whole}
use Rattle.scp03_card.proofs.session.Session.close_reply.Goals as goal

pub returns-clause-protected : goal.returns-clause-protected
returns-clause-protected g c = λ session stands.
    let status : ℕ = c.args.status.0 in
    let x : List ℕ = reply_field session c.args.reply.now.items in
    let field : c.encipher.new.reply.items ≡ x = c.encipher.ensures.field session stands in
    let sw = c.to_bytes-sw.ensures in
    let mac : take 8 c.reply_mac-mac.result ≡ r_mac session x status =
    ap (take 8)
    (c.reply_mac-mac.ensures
    ∙ (λ i. cmac c.self.inside.keys.rmac (c.self.inside.chain ++ (c.deref.ensures.0 ∙ field) i ++ sw i))
    ∙ ap (λ (k : KeptSession). cmac k.keys.rmac (k.chain ++ x ++ status_bytes status)) c.self.view_is)
    ∙ kept_r_mac c.args.self.now session stands x status in
    let protects : has_r_mac session.level ≡ true =
    sym (c.has_r_mac.ensures ∙ ap (λ (k : KeptSession). has_r_mac k.level) c.self.view_is ∙ ap has_r_mac stands.level) ∙ c.if-not-has_r_mac.false in
    c.append-3.ensures.items
    ∙ (λ i. c.append-2.ensures.items i ++ sw i)
    ∙ (λ i. field i ++ mac i ++ status_bytes status)
    ∙ protected_whole session c.args.reply.now.items status protects (sym c.is_success_or_warning.ensures ∙ c.if-not-is_success_or_warning.false)
