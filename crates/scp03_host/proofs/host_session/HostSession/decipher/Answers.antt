use Rattle.std.proofs.Common.{◌≡◌, ◌∙◌, ◌<◌, List, [], ℕ, ap, sym, set, length, take, true, arith}
use Rattle.std.proofs.lemmas.Bool.{eqb-false}
use Rattle.std.proofs.lemmas.List.{length-take}
use Rattle.aes_block.specs.Cipher.{cipher}
use Rattle.cmac_kdf.specs.Cbc.{sealed}
use Rattle.scp03_card.specs.Levels as standard
use Rattle.scp03_card.proofs.ListLemmas.{IsBytes-take, positive}
use Rattle.scp03_host.proofs.ReplyLemmas as reply
use Rattle.scp03_host.proofs.host_session.HostSession.decipher.Goals as goal

pub returns-in-Ok-clause-some : goal.returns-in-Ok-clause-some
returns-in-Ok-clause-some g c = λ session stands.
    let field : List ℕ = c.args.field.now in
    let some : 0 < length field = positive (length field) (eqb-false (length field) 0 (sym c.is_empty.ensures ∙ c.if-is_empty.false)) in
    let enciphered : standard.has_r_encryption session.level ≡ true = sym (c.has_r_encryption.ensures session stands) ∙ c.if-not-has_r_encryption.false in
    let p : List ℕ = take c.in-Ok.len c.unseal.new.buf in
    let plain : 0 < length p = omega (arith, length-take c.in-Ok.len c.unseal.new.buf, c.if-len-gt0.true, c.in-Ok.ensures.length, c.unseal.auto.buf) in (
      reply.sealed_reply session p plain enciphered ∙ sym (reply.kept_enciphers c.args.self.now session stands _ c.to_be_bytes-counter.result (p) c.self.view_is c.to_be_bytes-counter.ensures) ∙ c.in-Ok.ensures.ok,
      IsBytes-take c.in-Ok.len c.unseal.new.buf (record { at = λ j. omega (arith, c.type_inv.field j) }),
    )

pub returns-in_default-clause-none : goal.returns-in_default-clause-none
returns-in_default-clause-none g c = λ session stands p bytes same.
    let field : List ℕ = c.args.field.now in
    let some : 0 < length field = positive (length field) (eqb-false (length field) 0 (sym c.is_empty.ensures ∙ c.if-is_empty.false)) in
    let enciphered : standard.has_r_encryption session.level ≡ true = sym (c.has_r_encryption.ensures session stands) ∙ c.if-not-has_r_encryption.false in
    let found = reply.of_sealed_reply session p field some enciphered same in
    let zero : c.in-Ok.len ≡ 0 = omega (arith, c.if-len-gt0.false) in
    let none = ap (λ (n : ℕ). sealed c.self.inside.keys.enc (cipher c.self.inside.keys.enc (set c.to_be_bytes-counter.result 0 0x80)) (take n c.unseal.new.buf)) zero
    ∙ reply.kept_enciphers c.args.self.now session stands _ c.to_be_bytes-counter.result ([]) c.self.view_is c.to_be_bytes-counter.ensures in
    let empty : p ≡ [] = reply.one_sealed_reply session p [] bytes (record { at = λ j. omega arith }) (found.1 ∙ sym c.in-Ok.ensures.ok ∙ none) in
    absurd (omega (arith, ap length empty, found.0))

pub returns-in_default-2-clause-none : goal.returns-in_default-2-clause-none
returns-in_default-2-clause-none g c = λ session stands p bytes same.
    let field : List ℕ = c.args.field.now in
    let some : 0 < length field = positive (length field) (eqb-false (length field) 0 (sym c.is_empty.ensures ∙ c.if-is_empty.false)) in
    let enciphered : standard.has_r_encryption session.level ≡ true = sym (c.has_r_encryption.ensures session stands) ∙ c.if-not-has_r_encryption.false in
    let found = reply.of_sealed_reply session p field some enciphered same in
    c.in_default.ensures.refused p bytes (reply.kept_enciphers c.args.self.now session stands _ c.to_be_bytes-counter.result (p) c.self.view_is c.to_be_bytes-counter.ensures ∙ found.1)
