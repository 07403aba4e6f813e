-- Replies that are laid before a desk, one after the other.
use Rattle.std.specs.Prelude.{◌≡◌, ℕ, ◌+◌, List, [], ◌∷◌}
use Rattle.receipt_desk.specs.Judgement.{Judged, last_after}
use Rattle.receipt_desk.specs.declared.verdict.Verdict.{Verdict}
use Rattle.receipt_desk.specs.declared.verdict.Verdict.TheVariants.{Fits}

-- what is laid before a desk: the data field of a reply, and the AIDs that its command was about
pub record Slip : Type 0 where
  pub reply : List ℕ
  pub aids : List (List ℕ)

-- the desk judges each in its turn, from one last number on, and comes to another
abbrev pub JudgedInTurn : (key unique : List ℕ) (last : ℕ) → List Slip → List Verdict → ℕ → Type 0
JudgedInTurn key unique last [] verdicts end = (verdicts ≡ []) × (end ≡ last)
JudgedInTurn key unique last (slip ∷ slips) [] end = ⊥
JudgedInTurn key unique last (slip ∷ slips) (verdict ∷ verdicts) end =
    Judged key unique last slip.reply slip.aids verdict × JudgedInTurn key unique (last_after verdict last) slips verdicts end

-- each fits, with the numbers after this one
abbrev pub fits_from : ℕ → List Slip → List Verdict
fits_from last [] = []
fits_from last (slip ∷ slips) = Fits (last + 1) ∷ fits_from (last + 1) slips

abbrev pub IsFits : Verdict → Type 0
IsFits (Fits number) = Unit {0}
IsFits verdict = ⊥
