-- The form that takes a command: what is so of each lawful form is so of what commands do.
use Rattle.std.proofs.Common.{◌≡◌, List, [], ◌∷◌, Option, None, refl, sym, ◌∙◌, inl, inr}
use Rattle.policy_machine.specs.Prelude.{Admitted, AtMostOne, CommandForm, DoesAs, Effect, HasEffect, Judges, JudgesAs, OneOf, TakesCommand, forms_of}
use Rattle.policy_machine.specs.declared.rule.Rule.{Rule}
use Rattle.policy_machine.proofs.AllForms.{AllOf, lawful_forms, one_form}
use Rattle.policy_machine.proofs.Lawful.{IsLawful}

-- what is judged by its own rules has a form
pub own_judged : (admitted : Admitted) (found : Option Rule) → (found ≡ None) → Judges admitted found
    → OneOf (λ form. JudgesAs form admitted found) (forms_of admitted.command.ins)
own_judged admitted found none (inl wrong) = (let clash = sym wrong.found_is ∙ none in cc)
own_judged admitted found none (inr judged) = judged.1

-- Of one form of these it holds. What is so of each form is so of that one, and what holds of that one holds of one of these.
pub pick_form : (G P H : CommandForm → Type 0) (R : Type 0) (forms : List CommandForm) → ((form : CommandForm) → G form → P form → (H form → OneOf H forms) → R)
    → AllOf G forms → OneOf P forms → R
pick_form G P H R [] so each one = absurd one
pick_form G P H R (form ∷ forms) so each (inl here) = so form each.0 here (λ is. inl is)
pick_form G P H R (form ∷ forms) so each (inr later) = pick_form G P H R forms (λ one is holds there. so one is holds (λ h. inr (there h))) each.1 later

-- two things that are so of forms which take a command are so of one
module _ (admitted : Admitted) (P Q : CommandForm → Type 0) (takes : (form : CommandForm) → P form → TakesCommand form admitted.command)
    (takes_too : (form : CommandForm) → Q form → TakesCommand form admitted.command) where
  taken_by : (H : CommandForm → Type 0) → ((form : CommandForm) → H form → TakesCommand form admitted.command) → (forms : List CommandForm) → OneOf H forms
      → OneOf (λ form. TakesCommand form admitted.command) forms
  taken_by H takes_it [] holds = absurd holds
  taken_by H takes_it (form ∷ forms) (inl here) = inl (takes_it form here)
  taken_by H takes_it (form ∷ forms) (inr later) = inr (taken_by H takes_it forms later)

  joined : (forms : List CommandForm) → AtMostOne (λ form. TakesCommand form admitted.command) forms → OneOf P forms → OneOf Q forms → OneOf (λ form. P form × Q form) forms
  joined [] alone one other = absurd one
  joined (form ∷ forms) alone (inl one) (inl other) = inl (one, other)
  joined (form ∷ forms) alone (inl one) (inr other) = absurd (alone.0 (takes form one) (taken_by Q takes_too forms other))
  joined (form ∷ forms) alone (inr one) (inl other) = absurd (alone.0 (takes_too form other) (taken_by P takes forms one))
  joined (form ∷ forms) alone (inr one) (inr other) = inr (joined forms alone.1 one other)

  pub join_forms : OneOf P (forms_of admitted.command.ins) → OneOf Q (forms_of admitted.command.ins) → OneOf (λ form. P form × Q form) (forms_of admitted.command.ins)
  join_forms =
      joined (forms_of admitted.command.ins) (one_form admitted.command.ins admitted.command.p1 admitted.command.p2 admitted.command.body)

-- what follows of a lawful form by two such things follows of the command
pub by_form : (admitted : Admitted) (P Q : CommandForm → Type 0) → ((form : CommandForm) → P form → TakesCommand form admitted.command)
    → ((form : CommandForm) → Q form → TakesCommand form admitted.command) → (R : Type 0) → ((form : CommandForm) → IsLawful form → P form → Q form → R)
    → OneOf P (forms_of admitted.command.ins) → OneOf Q (forms_of admitted.command.ins) → R
by_form admitted P Q takes takes_too R so one other =
    pick_form IsLawful (λ form. P form × Q form) (λ form. Unit {0}) R (forms_of admitted.command.ins) (λ form lawful both there. so form lawful both.0 both.1)
    (lawful_forms admitted.command.ins) (join_forms admitted P Q takes takes_too one other)

-- an accepted command is judged by a form, and does what that does
abbrev pub Accepts : Admitted → Effect → CommandForm → Type 0
Accepts admitted done form = JudgesAs form admitted None × DoesAs form admitted done

pub accepting_form : (admitted : Admitted) (done : Effect) → Judges admitted None → HasEffect admitted done → OneOf (Accepts admitted done) (forms_of admitted.command.ins)
accepting_form admitted done judges =
    join_forms admitted (λ form. JudgesAs form admitted None) (λ form. DoesAs form admitted done) (λ form judged. judged.0) (λ form does. does.0) (own_judged admitted None refl judges)

pub accepted_by : (admitted : Admitted) (done : Effect) (R : Type 0) → ((form : CommandForm) → IsLawful form → JudgesAs form admitted None → form.does admitted done → R)
    → Judges admitted None → HasEffect admitted done → R
accepted_by admitted done R so judges does =
    pick_form IsLawful (Accepts admitted done) (λ form. Unit {0}) R (forms_of admitted.command.ins) (λ form lawful both there. so form lawful both.0 both.1.1)
    (lawful_forms admitted.command.ins) (accepting_form admitted done judges does)

-- a command does what a form that takes it does, whatever rule it is judged by
pub done_by : (admitted : Admitted) (done : Effect) (R : Type 0) → ((form : CommandForm) → IsLawful form → TakesCommand form admitted.command → form.does admitted done → R)
    → HasEffect admitted done → R
done_by admitted done R so does =
    by_form admitted (λ form. DoesAs form admitted done) (λ form. DoesAs form admitted done) (λ form one. one.0) (λ form one. one.0) R
    (λ form lawful one other. so form lawful one.0 one.1) does does
