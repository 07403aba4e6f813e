use Rattle.std.proofs.Common.{refl, arith}
use Rattle.cmac_kdf.proofs.PaddingLemmas.{stripped, not_padded_at, not_padded_zeros}
use Rattle.cmac_kdf.proofs.padding.unpadded_len.Goals as goal

pub returns-then-byte-clause-padded : goal.returns-then-byte-clause-padded
returns-then-byte-clause-padded c =
    stripped c.args.bytes.now _ c.requires.whole (omega arith) (omega arith) c.if-byte.true (λ k h. c.loop-zeros.invariant k (omega arith))

pub returns-then-byte-ne0-clause-refused : goal.returns-then-byte-ne0-clause-refused
returns-then-byte-ne0-clause-refused c = λ p e.
    not_padded_at c.args.bytes.now p _ _ refl c.if-byte-ne0.true c.if-byte.false (λ k h. c.loop-zeros.invariant k (omega arith)) e

pub returns-clause-refused : goal.returns-clause-refused
returns-clause-refused c = λ p e. not_padded_zeros c.args.bytes.now p (λ k h. c.loop-zeros.invariant k (omega (arith, c.loop-zeros.auto.zeros-end))) e
