use Rattle.std.proofs.Common.{◌∙◌, [], ◌++◌, ap, ℕ, List}
use Rattle.cmac_kdf.specs.Cmac.{cmac}
use Rattle.apdu_core.specs.Apdu.{Apdu, apdu_of}
use Rattle.scp03_card.specs.Kept.{KeptSession}
use Rattle.scp03_card.specs.Session.{message}
use Rattle.scp03_card.proofs.SessionLemmas.{kept_next_chain, message_after}
use Rattle.scp03_host.specs.Wrapped.{as_sent, message_of}
use Rattle.scp03_host.proofs.host_session.HostSession.chain_after.Goals as goal

pub returns : goal.returns
returns g c = λ session stands field.
    let sent : Apdu = as_sent (apdu_of c.args.plain.now) 0 [] in
    c.chain_after.ensures
    ∙ ap (cmac c.self.inside.keys.mac) (message_after c.self.inside.chain sent c.args.field.now)
    ∙ ap (λ (k : KeptSession). cmac k.keys.mac (k.chain ++ message sent c.args.field.now)) c.self.view_is
    ∙ ap (λ (f : List ℕ). cmac c.args.self.now.keys.mac (c.args.self.now.chain ++ message sent f)) field
    ∙ kept_next_chain c.args.self.now session stands (message_of session (apdu_of c.args.plain.now))
