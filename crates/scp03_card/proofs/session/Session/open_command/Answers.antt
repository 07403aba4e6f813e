use Rattle.std.proofs.Common.{◌∙◌, ◌+◌, ◌%◌, ◌^◌, List, ℕ, ap, subst, sym, refl, take}
use Rattle.apdu_core.specs.Apdu.{apdu_of}
use Rattle.scp03_card.specs.Kept.{HasSessionKeys, KeptSession}
use Rattle.scp03_card.specs.Opens.{Gives, accepting, field_of}
use Rattle.scp03_card.specs.Session.{message}
use Rattle.scp03_card.proofs.GivesLemmas.{gives_one}
use Rattle.scp03_card.proofs.SessionLemmas.{kept_next_number}
use Rattle.scp03_card.proofs.session.Session.open_command.Goals as goal

pub returns-clause-back : goal.returns-clause-back
returns-clause-back g c = λ session p stands opens.
    let command = apdu_of c.args.command.now in
    let plain : List ℕ = take c.in-Some.len c.plain_field.new.plain in
    let keys : HasSessionKeys c.self.inside.keys session.offer = subst (λ (k : KeptSession). HasSessionKeys k.keys session.offer) (sym c.self.view_is) stands.keys in
    let level = ap (λ (k : KeptSession). k.level) c.self.view_is ∙ stands.level in
    let number = kept_next_number c.args.self.now session stands (message command (field_of command)) _ (ap (λ (k : KeptSession). (k.number + 1) % 2 ^ 128) c.self.view_is) in
    let found : Gives (accepting session command) (field_of command) plain =
    subst (λ (f : List ℕ). Gives (accepting session command) f plain) c.sent_field-field.ensures (c.in-Some.ensures.some (accepting session command) keys level number) in
    (c.in-Some.len, refl, gives_one (accepting session command) (field_of command) plain p found opens.gives)
