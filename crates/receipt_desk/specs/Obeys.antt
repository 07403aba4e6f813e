-- For the code inside. What comes of a line that says this.
use Rattle.std.specs.Prelude.{◌≡◌, ℕ, List}
use Rattle.line_runs.specs.declared.taker.Taking.{Taking}
use Rattle.line_runs.specs.declared.taker.Taking.TheVariants.{Taken, NoForm, Failed}
use Rattle.receipt_desk.specs.Audit.{AuditState, Does}
use Rattle.receipt_desk.specs.declared.line.DeskLine.{DeskLine}

abbrev pub Obeys : AuditState → DeskLine → AuditState → List ℕ → Taking → Type 0
Obeys at line next said Taken = Does at line next said
Obeys at line next said NoForm = ((another : AuditState) (other : List ℕ) → Does at line another other → ⊥) × (next ≡ at)
Obeys at line next said Failed = ⊥
