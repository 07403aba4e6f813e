use Rattle.std.proofs.Common.{refl}
use Rattle.apdu_core.specs.Reply.{status_bytes}
use Rattle.script_lines.specs.Words.{SpellsSome, SpellsStatus}
use Rattle.script_lines.proofs.values.status.Goals as goal

pub returns-in_err-bytes : goal.returns-in_err-bytes
unfolding SpellsStatus SpellsSome
returns-in_err-bytes c =
    rw c.from_residual.ensures (λ value h. c.in_err-bytes.ensures (status_bytes value.0) (h, refl))
