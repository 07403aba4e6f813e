use Rattle.std.proofs.Common.{◌≡◌, ◌∙◌, ap, sym, arith, length}
use Rattle.std.proofs.lemmas.Bool.{eqb-true}
use Rattle.cmac_kdf.specs.Cbc.{cbc, sealed}
use Rattle.cmac_kdf.proofs.CbcLemmas.{cbc_none, length-sealed, sealed_plain}
use Rattle.cmac_kdf.proofs.PaddingLemmas.{padded_cancel, stripped_length}
use Rattle.cmac_kdf.proofs.cbc.cbc_unseal.Goals as goal
use Rattle.cmac_kdf.proofs.cbc.cbc_unseal.Goals.{then-is_empty-via-then-is_empty, then-is_empty-via-else-is_empty+then-buf-ne0}

pub returns-then-is_empty-clause-refused : goal.returns-then-is_empty-clause-refused
returns-then-is_empty-clause-refused g c = λ p bytes e.
    let long = length-sealed (g.K.BlockKey.key_bytes c.args.key.now) c.args.icv.now p in
    elim c.then-is_empty.branch [
      | then-is_empty-via-then-is_empty w ↦
          let none : length c.args.buf.now ≡ 0 = eqb-true (length c.args.buf.now) 0 (sym c.is_empty.ensures ∙ w.if-is_empty.true) in
          absurd (omega (arith, none, ap length e, long))
      | then-is_empty-via-else-is_empty+then-buf-ne0 w ↦ w.if-buf-ne0.true (omega (arith, ap length e, long))
    ]

pub returns-then-is_empty-clause-decrypted : goal.returns-then-is_empty-clause-decrypted
returns-then-is_empty-clause-decrypted g c = λ whole.
    elim c.then-is_empty.branch [
      | then-is_empty-via-then-is_empty w ↦
          cbc_none (g.K.BlockKey.key_bytes c.args.key.now) c.args.icv.now c.args.buf.now
          (eqb-true (length c.args.buf.now) 0 (sym c.is_empty.ensures ∙ w.if-is_empty.true))
      | then-is_empty-via-else-is_empty+then-buf-ne0 w ↦ absurd (w.if-buf-ne0.true whole)
    ]

pub returns-in_default-clause-refused : goal.returns-in_default-clause-refused
returns-in_default-clause-refused g c = λ p bytes e.
    c.in_default.ensures.refused p
    (sealed_plain (g.K.BlockKey.key_bytes c.args.key.now) c.args.icv.now c.args.buf.now c.cbc_unseal_blocks.new.buf p c.cbc_unseal_blocks.auto.buf c.cbc_unseal_blocks.ensures.alone bytes e)

pub returns-clause-ok : goal.returns-clause-ok
unfolding sealed
returns-clause-ok g c =
    ap (cbc (g.K.BlockKey.key_bytes c.args.key.now) c.args.icv.now) c.in-Some.ensures.padded ∙ c.cbc_unseal_blocks.ensures.gives_back

pub returns-clause-length : goal.returns-clause-length
returns-clause-length g c = stripped_length c.cbc_unseal_blocks.new.buf c.in-Some.len c.in-Some.ensures.within c.in-Some.ensures.padded ∙ c.cbc_unseal_blocks.auto.buf

pub returns-clause-alone : goal.returns-clause-alone
returns-clause-alone g c = λ p bytes e.
    padded_cancel p _
    (sealed_plain (g.K.BlockKey.key_bytes c.args.key.now) c.args.icv.now c.args.buf.now c.cbc_unseal_blocks.new.buf p c.cbc_unseal_blocks.auto.buf c.cbc_unseal_blocks.ensures.alone bytes e
    ∙ sym c.in-Some.ensures.padded)
