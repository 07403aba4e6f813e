-- What comes of a line by what it says.
use Rattle.std.proofs.Common.{ℕ, List, subst}
use Rattle.line_runs.specs.Taker.{TakerComes}
use Rattle.line_runs.specs.declared.taker.Taking.{Taking}
use Rattle.line_runs.specs.declared.taker.Taking.TheVariants.{Taken, NoForm, Failed}
use Rattle.receipt_desk.proofs.OneLine.{one_desk_line}
use Rattle.receipt_desk.specs.Audit.{AuditState, Does, desk_taker}
use Rattle.receipt_desk.specs.Lines.{SaysDesk}
use Rattle.receipt_desk.specs.Obeys.{Obeys}
use Rattle.receipt_desk.specs.declared.line.DeskLine.{DeskLine}

pub obeyed_comes : (at next : AuditState) (text said : List ℕ) (line : DeskLine) → SaysDesk text line → (result : Taking) → Obeys at line next said result
    → TakerComes desk_taker at text next said result
obeyed_comes at next text said line says Taken does = (line, says, does)
obeyed_comes at next text said line says NoForm none = (
  λ form.
      (let takes = form.2 in
      let same = one_desk_line text takes.0 line takes.1 says in
      none.0 form.0 form.1 (subst (λ (l : DeskLine). Does at l form.0 form.1) same takes.2)),
  none.1,
)
obeyed_comes at next text said line says Failed none = absurd none
