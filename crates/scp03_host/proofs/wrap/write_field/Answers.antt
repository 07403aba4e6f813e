use Rattle.std.proofs.Common.{◌≡◌, ◌∙◌, ◌<◌, ◌++◌, ap, sym, length, take, true}
use Rattle.std.proofs.lemmas.List.{take_at}
use Rattle.aes_block.specs.Cipher.{cipher}
use Rattle.cmac_kdf.specs.Cbc.{sealed}
use Rattle.std.proofs.lemmas.Bool.{eqb-false}
use Rattle.scp03_card.specs.Levels.{has_c_decryption}
use Rattle.scp03_card.proofs.ListLemmas.{positive}
use Rattle.scp03_host.proofs.SentLemmas.{kept_sent}
use Rattle.scp03_host.proofs.wrap.write_field.Goals as goal

pub returns-clause-field : goal.returns-clause-field
returns-clause-field g c = λ session keys level number.
    let some : 0 < length c.args.field.now = positive (length c.args.field.now) (eqb-false (length c.args.field.now) 0 (sym c.is_empty.ensures ∙ c.if-is_empty.false)) in
    let enciphered : has_c_decryption session.level ≡ true = ap has_c_decryption (sym level) ∙ sym c.has_c_decryption.ensures ∙ c.if-not-has_c_decryption.false in
    let front : take (length c.args.field.now) (c.copy_from_slice.new.self ++ _) ≡ c.args.field.now =
    take_at c.copy_from_slice.new.self _ (length c.args.field.now) (ap length c.copy_from_slice.ensures.after) ∙ c.copy_from_slice.ensures.after in
    c.seal.ensures.sealed
    ∙ (λ i. sealed c.args.keys.now.enc (cipher c.args.keys.now.enc (c.to_be_bytes.ensures i)) (front i))
    ∙ kept_sent c.args.keys.now session c.args.number c.args.field.now keys number some enciphered
