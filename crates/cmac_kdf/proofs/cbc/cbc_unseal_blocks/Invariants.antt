use Rattle.cmac_kdf.proofs.CbcLemmas.{UnsealsUpTo}
use Rattle.cmac_kdf.proofs.cbc.cbc_unseal_blocks.Given as goal

abbrev pub invariant-loop-i : goal.invariant-loop-i
invariant-loop-i g l = UnsealsUpTo (g.K.BlockKey.key_bytes l.key) l.icv l.fn.buf l.buf l.chain l.i
