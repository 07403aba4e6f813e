-- For the code inside. Forms of card content management whose commands a receipt may confirm: what a command of such a form is, and what
-- it makes of the registry.
use Rattle.std.specs.Prelude.{◌≡◌, ◌↔◌, ℕ, Bool, true, List, refl}
use Rattle.card_types.specs.Registry.{Registry}
use Rattle.card_types.specs.Represents.{Represents}
use Rattle.card_types.specs.declared.tables.Tables.{Tables}
use Rattle.policy_machine.proofs.Judging.{IsListed, does_so}
use Rattle.policy_machine.specs.Admission.{Admitted}
use Rattle.policy_machine.specs.Commands.{HasEffect, TakesCommand}
use Rattle.policy_machine.specs.Delegation.{no_confirmation}
use Rattle.policy_machine.specs.ManagedForm.{CommandAsks, JudgedForm, ManagedEffect, ManagedForm, command_form}
use Rattle.policy_machine.specs.State.{Effect}

-- The command does what the form says. It is delegated as both say, may have a receipt, and is answered by 00 where nobody confirms it.
pub record IsOfForm (form : ManagedForm) (rules : JudgedForm) (receipted : Bool) (admitted : Admitted) : Type 0 where
  pub does : (done : Effect) → ManagedEffect form admitted done → HasEffect admitted done
  pub delegated : form.judged.delegation.is_delegated admitted ↔ rules.delegation.is_delegated admitted
  pub receipted_is : receipted ≡ true
  pub reply : (asked : form.judged.Asked) → form.reply asked ≡ no_confirmation

-- a command of a form that is listed
pub of_form : (form : ManagedForm) → IsListed (command_form form) → ((asked : form.judged.Asked) → form.reply asked ≡ no_confirmation)
    → (admitted : Admitted) → TakesCommand (command_form form) admitted.command → IsOfForm form form.judged true admitted
of_form form listed reply admitted takes = record {
  does = does_so (command_form form) listed admitted takes;
  delegated = (λ is. is, λ is. is);
  receipted_is = refl;
  reply = reply;
}

-- The tables say the registry that a command of the form leaves but for the number of a receipt, and a receipt of it names these AIDs.
pub record BecomesAsAsked (form : ManagedForm) (admitted : Admitted) (page : ℕ → List ℕ) (tables : Tables) (aids : List (List ℕ)) : Type 0 where
  pub asked : form.judged.Asked
  pub asks : CommandAsks form.judged admitted asked
  pub changed : Registry
  pub becomes : form.becomes admitted asked changed
  pub says : Represents page tables changed
  pub about : aids ≡ form.judged.delegation.about admitted asked
