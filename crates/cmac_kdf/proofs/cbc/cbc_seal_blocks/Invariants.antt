use Rattle.cmac_kdf.proofs.CbcLemmas.{SealsUpTo}
use Rattle.cmac_kdf.proofs.cbc.cbc_seal_blocks.Given as goal

abbrev pub invariant-loop-i : goal.invariant-loop-i
invariant-loop-i g l = SealsUpTo (g.K.BlockKey.key_bytes l.key) l.icv l.fn.buf l.buf l.chain l.i
