-- What a desk does with its lines, one after the other.
use Rattle.std.specs.Prelude.{◌≡◌, ℕ, List, [], ◌∷◌, ◌||◌, Bool, true, false, Some}
use Rattle.line_runs.specs.Taker.{Taker, faultless}
use Rattle.script_tool.specs.Tokens.{sized_key}
use Rattle.tokens_receipts.specs.Token.{token}
use Rattle.receipt_desk.specs.Judgement.{DeskState, Judged, last_after, new_desk}
use Rattle.receipt_desk.specs.Lines.{SaysDesk}
use Rattle.receipt_desk.specs.Text.{token_line, verdict_line}
use Rattle.receipt_desk.specs.declared.aids.Aids.{Aids}
use Rattle.receipt_desk.specs.declared.aids.Aids.TheVariants.{One, Two, Three}
use Rattle.receipt_desk.specs.declared.line.DeskLine.{DeskLine}
use Rattle.receipt_desk.specs.declared.line.DeskLine.TheVariants.{Nothing, Key, Unique, From, Sign, Receipt}
use Rattle.receipt_desk.specs.declared.verdict.Verdict.{Verdict}
use Rattle.receipt_desk.specs.declared.verdict.Verdict.TheVariants.{Fits}

-- between two lines: the desk, and whether a verdict was another than that a receipt fits
pub record AuditState : Type 0 where
  pub desk : DeskState
  pub differs : Bool

abbrev pub new_audit : AuditState
new_audit = record { desk = new_desk; differs = false }

-- what a command was about
abbrev pub aids_in : Aids → List (List ℕ)
aids_in (One a) = a ∷ []
aids_in (Two a b) = a ∷ b ∷ []
aids_in (Three a b c) = a ∷ b ∷ c ∷ []

abbrev pub is_other : Verdict → Bool
is_other (Fits number) = false
is_other verdict = true

-- after a verdict
abbrev pub with_verdict : AuditState → Verdict → AuditState
with_verdict at verdict = record {
  desk = record at.desk { last = last_after verdict at.desk.last };
  differs = at.differs || is_other verdict;
}

-- What a line says leads from a state to another, and this is written. Tokens and verdicts need a key.
abbrev pub Does : AuditState → DeskLine → AuditState → List ℕ → Type 0
Does at Nothing next said = (next ≡ at) × (said ≡ [])
Does at (Key key) next said = (next ≡ record at { desk = record at.desk { key = Some (sized_key key) } }) × (said ≡ [])
Does at (Unique bytes) next said = (next ≡ record at { desk = record at.desk { unique = bytes.items } }) × (said ≡ [])
Does at (From number) next said = (next ≡ record at { desk = record at.desk { last = number } }) × (said ≡ [])
Does at (Sign s) next said = (key : List ℕ) × (at.desk.key ≡ Some key) × (next ≡ at) × (said ≡ token_line (token key s.p1 s.p2 s.before.items))
Does at (Receipt r) next said =
    (key : List ℕ) × (verdict : Verdict) × (at.desk.key ≡ Some key)
    × Judged key at.desk.unique at.desk.last r.reply.items (aids_in r.aids) verdict
    × (next ≡ with_verdict at verdict) × (said ≡ verdict_line verdict)

-- A text that says such a line leads from the state to the other, and this is written.
abbrev pub TakesDesk : AuditState → List ℕ → AuditState → List ℕ → Type 0
TakesDesk at text next said = (line : DeskLine) × SaysDesk text line × Does at line next said

-- what takes the lines of a desk: it never fails
abbrev pub desk_taker : Taker AuditState
desk_taker = faultless TakesDesk
