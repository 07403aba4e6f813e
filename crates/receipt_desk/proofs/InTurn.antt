-- Where all fit, their numbers follow one another.
use Rattle.std.proofs.Common.{◌≡◌, ℕ, ◌+◌, List, [], ◌∷◌, ap, subst, ◌∙◌}
use Rattle.std.proofs.lemmas.List.Elements.{All-head, All-tail}
use Rattle.receipt_desk.specs.InTurn.{IsFits, JudgedInTurn, Slip, fits_from}
use Rattle.receipt_desk.specs.Judgement.{Judged}
use Rattle.receipt_desk.specs.Laws.{FittingFollow, GapsAreNoticed, numbers_from}
use Rattle.receipt_desk.specs.declared.verdict.Verdict.TheVariants.{Fits, Form, Unique, Number, Mac}
use Rattle.receipt_desk.proofs.Verdicts.{next_is, one_place}

-- one that fits with the next number, and then the rest
pub first_fits : (key unique : List ℕ) (before next after : ℕ) (slip : Slip) (slips : List Slip) → next ≡ before + 1 → Judged key unique before slip.reply slip.aids (Fits next)
    → JudgedInTurn key unique next slips (fits_from next slips) after → JudgedInTurn key unique before (slip ∷ slips) (fits_from before (slip ∷ slips)) after
first_fits key unique before next after slip slips is here later = (
  subst (λ (n : ℕ). Judged key unique before slip.reply slip.aids (Fits n)) is here,
  subst (λ (n : ℕ). JudgedInTurn key unique n slips (fits_from n slips) after) is later,
)

pub fitting_follow : FittingFollow
fitting_follow key unique last end [] verdicts judged fit = judged.0
fitting_follow key unique last end (slip ∷ slips) [] judged fit = absurd judged
fitting_follow key unique last end (slip ∷ slips) (Fits number ∷ verdicts) judged fit =
    let here = (next_is last number judged.0.0).0 in
    let rest = fitting_follow key unique number end slips verdicts judged.1 (All-tail IsFits (Fits number) verdicts fit) in
    let later = rest ∙ ap (λ (n : ℕ). fits_from n slips) here in
    (λ i. Fits (here i) ∷ later i)
fitting_follow key unique last end (slip ∷ slips) (Form ∷ verdicts) judged fit = absurd (All-head IsFits Form verdicts fit)
fitting_follow key unique last end (slip ∷ slips) (Unique ∷ verdicts) judged fit = absurd (All-head IsFits Unique verdicts fit)
fitting_follow key unique last end (slip ∷ slips) (Number have want ∷ verdicts) judged fit = absurd (All-head IsFits (Number have want) verdicts fit)
fitting_follow key unique last end (slip ∷ slips) (Mac ∷ verdicts) judged fit = absurd (All-head IsFits Mac verdicts fit)

pub gaps_are_noticed : GapsAreNoticed
gaps_are_noticed key unique last end [] verdicts numbers are judged fit = are
gaps_are_noticed key unique last end (slip ∷ slips) verdicts [] are judged fit = absurd are
gaps_are_noticed key unique last end (slip ∷ slips) [] (number ∷ numbers) are judged fit = absurd judged
gaps_are_noticed key unique last end (slip ∷ slips) (Fits next ∷ verdicts) (number ∷ numbers) are judged fit =
    let of = are.1 in
    let fits = subst (λ (reply : List ℕ). Judged key unique last reply slip.aids (Fits next)) of.3 judged.0 in
    let here = one_place key unique of.0 of.1 last number next slip.aids of.2 are.0 fits in
    let rest = gaps_are_noticed key unique next end slips verdicts numbers are.2 judged.1 (All-tail IsFits (Fits next) verdicts fit) in
    let first = here.1 in
    let later = rest ∙ ap (λ (n : ℕ). numbers_from n slips) (here.0 ∙ first) in
    (λ i. first i ∷ later i)
gaps_are_noticed key unique last end (slip ∷ slips) (Form ∷ verdicts) (number ∷ numbers) are judged fit = absurd (All-head IsFits Form verdicts fit)
gaps_are_noticed key unique last end (slip ∷ slips) (Unique ∷ verdicts) (number ∷ numbers) are judged fit = absurd (All-head IsFits Unique verdicts fit)
gaps_are_noticed key unique last end (slip ∷ slips) (Number have want ∷ verdicts) (number ∷ numbers) are judged fit =
    absurd (All-head IsFits (Number have want) verdicts fit)
gaps_are_noticed key unique last end (slip ∷ slips) (Mac ∷ verdicts) (number ∷ numbers) are judged fit = absurd (All-head IsFits Mac verdicts fit)
