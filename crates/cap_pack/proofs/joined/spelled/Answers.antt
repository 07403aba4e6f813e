use Rattle.std.proofs.Common.{ℕ}
use Rattle.arrayvec.specs.ArrayVec.{ArrayVec}
use Rattle.cap_pack.proofs.InputLines.{line_read}
use Rattle.cap_pack.proofs.joined.spelled.Goals as goal

pub returns : goal.returns
returns c =
    line_read (λ (value : ArrayVec ℕ). value.items) c.args.line.now c.bytes.result c.requires (λ says. (let wrong = c.says_nothing.ensures.1 says in cc (wrong, c.if-says_nothing.false))) c.bytes.ensures
