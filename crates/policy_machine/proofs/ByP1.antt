-- Forms of one instruction that P1 tells apart: each takes values of P1 that no other takes.
use Rattle.std.proofs.Common.{◌≡◌, ℕ, Bool, List, ◌∷◌, true, inl, inr, sym, ◌∙◌}
use Rattle.std.specs.List.{list_all, list_any}
use Rattle.std.specs.Prelude.{Contains, ◌++◌, ◌==◌, not}
use Rattle.std.proofs.lemmas.Bool.{not_from_true, true≢false}
use Rattle.std.proofs.lemmas.List.Elements.{Contains-append_left, Contains-append_right}
use Rattle.policy_machine.specs.Prelude.{CommandForm, OneOf, Takes}
use Rattle.policy_machine.proofs.FormLaws.{AreApart}
use Rattle.policy_machine.proofs.Instructed.{each_byte, found_among}

-- the form takes a command with one of these values of P1 alone
pub record TakesP1 (these : List ℕ) (form : CommandForm) : Type 0 where
  pub of : (p1 p2 : ℕ) → form.takes p1 p2 → Contains these p1

-- each of these forms takes a command with one of these values alone
abbrev pub TakeP1 : List ℕ → List CommandForm → Type 0
TakeP1 these forms = (ins p1 p2 : ℕ) (body : List ℕ) → OneOf (λ form. Takes form ins p1 p2 body) forms → Contains these p1

-- none of these values is one of the others
abbrev pub are_others : List ℕ → List ℕ → Bool
are_others these others = list_all (λ p1. not (list_any (λ one. one == p1) others)) these

-- none of the forms takes a value of this one, so none takes a command that it takes
pub p1_apart : (form : CommandForm) (forms : List CommandForm) (these others : List ℕ) → TakesP1 these form → TakeP1 others forms
    → are_others these others ≡ true → AreApart form forms
p1_apart form forms these others mine rest differ ins p1 p2 body takes other =
    let no_other = each_byte (λ p1. not (list_any (λ one. one == p1) others)) these differ p1 (mine.of p1 p2 takes.1) in
    true≢false (sym no_other ∙ not_from_true _ (found_among others p1 (rest ins p1 p2 body other)))

-- the values of a form beside those of others
pub p1_joined : (form : CommandForm) (forms : List CommandForm) (these others : List ℕ) → TakesP1 these form → TakeP1 others forms
    → TakeP1 (these ++ others) (form ∷ forms)
p1_joined form forms these others mine rest ins p1 p2 body (inl takes) = Contains-append_left these others p1 (mine.of p1 p2 takes.1)
p1_joined form forms these others mine rest ins p1 p2 body (inr other) = Contains-append_right these others p1 (rest ins p1 p2 body other)
