use Rattle.std.proofs.Common.{◌∙◌, ◌+◌, ◌∷◌, ◌++◌, [], ap, length, ℕ, List}
use Rattle.cmac_kdf.specs.Cmac.{cmac}
use Rattle.apdu_core.specs.Apdu.{apdu_of}
use Rattle.scp03_card.specs.Kept.{KeptSession}
use Rattle.scp03_card.specs.Session.{message}
use Rattle.scp03_card.proofs.SessionLemmas.{kept_next_chain, message_after}
use Rattle.scp03_card.proofs.session.Session.chain_after.Goals as goal

pub returns : goal.returns
returns g c = λ session stands.
    let command = c.args.command.now in
    let m : List ℕ = message (apdu_of command) c.args.field.now in
    c.chain_after.ensures
    ∙ ap (λ (class : ℕ). cmac c.self.inside.keys.mac (c.self.inside.chain ++ (class ∷ command.ins ∷ command.p1 ∷ command.p2 ∷ (length c.args.field.now + 8) ∷ []) ++ c.args.field.now)) c.off_channel.ensures
    ∙ ap (cmac c.self.inside.keys.mac) (message_after c.self.inside.chain (apdu_of command) c.args.field.now)
    ∙ ap (λ (k : KeptSession). cmac k.keys.mac (k.chain ++ m)) c.self.view_is
    ∙ kept_next_chain c.args.self.now session stands m
