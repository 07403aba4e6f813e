use Rattle.std.proofs.Common.{◌≡◌, ◌∙◌, ◌∷◌, ◌<◌, List, ℕ, ap, sym, drop, set, length, true}
use Rattle.std.proofs.lemmas.Bool.{eqb-false}
use Rattle.std.specs.Int.{w128, to_be_bytes}
use Rattle.aes_block.specs.Cipher.{cipher}
use Rattle.cmac_kdf.specs.Cbc.{sealed}
use Rattle.scp03_card.specs.Kept.{KeptSession}
use Rattle.scp03_card.specs.Levels.{has_r_encryption}
use Rattle.scp03_card.proofs.ListLemmas.{positive}
use Rattle.scp03_card.proofs.SessionLemmas.{kept_sealed}
use Rattle.scp03_card.proofs.session.Session.encipher.Goals as goal

pub returns-clause-field : goal.returns-clause-field
returns-clause-field g c = λ session stands.
    let body : List ℕ = c.args.reply.now.items in
    let some : 0 < length body = positive (length body) (eqb-false (length body) 0 (sym c.is_empty.ensures ∙ c.if-is_empty.false)) in
    let enciphered : has_r_encryption c.args.self.now.level ≡ true =
    sym (c.has_r_encryption.ensures ∙ ap (λ (k : KeptSession). has_r_encryption k.level) c.self.view_is) ∙ c.if-not-has_r_encryption.false in
    kept_sealed c.args.self.now session stands body c.seal_whole.new.reply.items some enciphered
    (c.seal_whole.ensures.sealed
    ∙ ap (λ (b : List ℕ). sealed c.self.inside.keys.enc (cipher c.self.inside.keys.enc (set b 0 0x80)) body) c.to_be_bytes-counter.ensures
    ∙ ap (λ (k : KeptSession). sealed k.keys.enc (cipher k.keys.enc (0x80 ∷ drop 1 (to_be_bytes w128 k.number))) body) c.self.view_is)
