use Rattle.std.proofs.Common.{◌≡◌, ◌+◌, ◌*◌, ◌++◌, length}
use Rattle.arrayvec.specs.ArrayVec.{array_vec_len}
use Rattle.hex.specs.Hex.{encode_lower}
use Rattle.line_text.proofs.push.push_hex.Given as goal

abbrev pub invariant-loop-rest : goal.invariant-loop-rest
invariant-loop-rest g l = record {
  written : l.line.items ++ encode_lower l.rest ≡ l.fn.line.items ++ encode_lower l.bytes;
  size : array_vec_len l.line + 2 * length l.rest ≡ array_vec_len l.fn.line + 2 * length l.bytes;
}

abbrev pub decreases-loop-rest : goal.decreases-loop-rest
decreases-loop-rest g l = length l.rest
