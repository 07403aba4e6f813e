use Rattle.std.proofs.Common.{◌≡◌, ◌∙◌, ◌<◌, List, ℕ, ap, sym, arith, take, length, true}
use Rattle.std.proofs.lemmas.Bool.{eqb-false}
use Rattle.aes_block.specs.Cipher.{cipher}
use Rattle.cmac_kdf.specs.Cbc.{sealed}
use Rattle.scp03_card.specs.Levels.{has_c_decryption}
use Rattle.scp03_card.proofs.GivesLemmas.{gives_sealed, sealed_gives}
use Rattle.scp03_card.proofs.ListLemmas.{IsBytes-take, positive}
use Rattle.scp03_card.proofs.SessionLemmas.{command_icv_of}
use Rattle.scp03_card.proofs.open.decipher.Goals as goal

pub returns-in_default-clause-none : goal.returns-in_default-clause-none
returns-in_default-clause-none g c = λ session keys level number p gives.
    let some : 0 < length c.args.field.now = positive (length c.args.field.now) (eqb-false (length c.args.field.now) 0 (sym c.is_empty.ensures ∙ c.if-is_empty.false)) in
    let enciphered : has_c_decryption session.level ≡ true = ap has_c_decryption (sym level) ∙ sym c.has_c_decryption.ensures ∙ c.if-not-has_c_decryption.false in
    let icv = ap (cipher c.args.keys.now.enc) c.to_be_bytes.ensures ∙ command_icv_of c.args.keys.now session c.args.number keys number in
    let found = sealed_gives session c.args.field.now p some enciphered gives in
    c.in_default.ensures.refused p found.0 ((λ i. sealed (keys.enc i) (icv i) p) ∙ found.1)

pub returns-clause-some : goal.returns-clause-some
returns-clause-some g c = λ session keys level number.
    let some : 0 < length c.args.field.now = positive (length c.args.field.now) (eqb-false (length c.args.field.now) 0 (sym c.is_empty.ensures ∙ c.if-is_empty.false)) in
    let enciphered : has_c_decryption session.level ≡ true = ap has_c_decryption (sym level) ∙ sym c.has_c_decryption.ensures ∙ c.if-not-has_c_decryption.false in
    let icv = ap (cipher c.args.keys.now.enc) c.to_be_bytes.ensures ∙ command_icv_of c.args.keys.now session c.args.number keys number in
    let p : List ℕ = take c.in-Ok.len c.unseal.new.buf in
    gives_sealed session c.args.field.now p some enciphered
    (IsBytes-take c.in-Ok.len c.unseal.new.buf (record { at = λ j. omega (arith, c.type_inv.field j) }))
    (sym (λ i. sealed (keys.enc i) (icv i) p) ∙ c.in-Ok.ensures.ok)
