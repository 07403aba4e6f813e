use Rattle.std.proofs.Common.{refl}
use Rattle.std.specs.Int.{to_be_bytes, w16}
use Rattle.script_tool.specs.Words.{SpellsSome}
use Rattle.receipt_desk.specs.Lines.{SpellsNumber}
use Rattle.receipt_desk.proofs.line.number.Goals as goal

pub returns-in_err-bytes : goal.returns-in_err-bytes
unfolding SpellsNumber SpellsSome
returns-in_err-bytes c = rw c.from_residual.ensures (λ value h. c.in_err-bytes.ensures (to_be_bytes w16 value) (h.0, refl))
