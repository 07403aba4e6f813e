use Rattle.std.proofs.Common.{arith}
use Rattle.script_lines.specs.Words.{SpellsAid, SpellsUpTo}
use Rattle.script_lines.proofs.values.aid.Goals as goal

pub returns-in_err-bytes : goal.returns-in_err-bytes
unfolding SpellsAid SpellsUpTo
returns-in_err-bytes c =
    rw c.from_residual.ensures (λ value h.
    let least = h.1.0 in
    c.in_err-bytes.ensures (record { items = value }) (h.0, omega (arith, least), h.1.1))
