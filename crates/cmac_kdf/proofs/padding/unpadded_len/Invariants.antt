use Rattle.std.proofs.Common.{◌≡◌, ◌≤◌, ◌+◌, ℕ, get_or, length}
use Rattle.cmac_kdf.proofs.padding.unpadded_len.Given as goal

abbrev pub invariant-loop-zeros : goal.invariant-loop-zeros
invariant-loop-zeros l = (k : ℕ) → length l.bytes ≤ k + l.zeros → get_or l.bytes k 0 ≡ 0
