-- A command of a form passes exactly where none of the form's own rules fails.
use Rattle.std.proofs.Common.{◌≡◌, ℕ, [], Option, None, refl, sym, subst}
use Rattle.std.specs.Prelude.{◌↔◌}
use Rattle.policy_machine.specs.Admission.{Admitted}
use Rattle.policy_machine.specs.CommandForm.{CommandForm, FailsFirst}
use Rattle.policy_machine.specs.Commands.{Judges, JudgesAs, OneOf, TakesCommand, forms_of}
use Rattle.policy_machine.specs.ExternalAuthenticate.{rules_before_form}
use Rattle.policy_machine.specs.declared.rule.Rule.{Rule}
use Rattle.policy_machine.proofs.FormTaken.{by_form, own_judged}
use Rattle.policy_machine.proofs.Judging.{IsListed, judged}
use Rattle.policy_machine.proofs.OneOutcome.{judges_one}

module _ (form : CommandForm) (listed : IsListed form) (admitted : Admitted) (takes : TakesCommand form admitted.command) where
  -- it passes as this form, which alone takes it
  abbrev AsThis : CommandForm → Type 0
  AsThis other = TakesCommand other admitted.command × (JudgesAs other admitted None → FailsFirst form admitted None)

  this_listed : OneOf AsThis (forms_of admitted.command.ins)
  this_listed = subst (λ (ins : ℕ). OneOf AsThis (forms_of ins)) (sym takes.0) (listed AsThis (takes, λ is. is.1))

  passes_as : Judges admitted None → FailsFirst form admitted None
  passes_as judges =
      by_form admitted (λ other. JudgesAs other admitted None) AsThis (λ other is. is.0) (λ other is. is.0) (FailsFirst form admitted None)
      (λ other lawful judged is. is.1 judged) (own_judged admitted None refl judges) this_listed

  pub passes : rules_before_form form.instruction ≡ [] → (found : Option Rule) → Judges admitted found → (found ≡ None) ↔ FailsFirst form admitted None
  passes none found judges = (
    λ is. passes_as (subst (Judges admitted) is judges),
    λ first. judges_one admitted found None judges (judged form listed admitted takes none None first),
  )
