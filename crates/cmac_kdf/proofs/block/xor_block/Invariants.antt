use Rattle.std.proofs.Common.{◌≡◌, ◌≤◌, ◌<◌, ℕ, get_or, bit_xor, length}
use Rattle.cmac_kdf.proofs.block.xor_block.Given as goal

abbrev pub invariant-loop-i : goal.invariant-loop-i
invariant-loop-i l =
    (length l.block ≡ 16) × ((k : ℕ) → k < l.i → get_or l.block k 0 ≡ bit_xor (get_or l.fn.block k 0) (get_or l.with k 0))
    × ((k : ℕ) → l.i ≤ k → get_or l.block k 0 ≡ get_or l.fn.block k 0)
