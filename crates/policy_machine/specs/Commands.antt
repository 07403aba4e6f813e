-- The commands: how one is judged by its form and by the rules of its own, and what it does.
use Rattle.std.specs.Prelude.{◌≡◌, ◌⊎◌, ℕ, List, [], ◌∷◌, ◌++◌, Bool, true, false, Option, None, Some, ◌==◌}
use Rattle.apdu_core.specs.Apdu.{Apdu}
use Rattle.policy_machine.specs.Admission.{Admitted}
use Rattle.policy_machine.specs.CardStatus.{managed_card_status}
use Rattle.policy_machine.specs.CommandForm.{CommandForm, FailsFirst}
use Rattle.policy_machine.specs.DeleteKey.{managed_delete_key}
use Rattle.policy_machine.specs.DeleteObject.{managed_delete_object}
use Rattle.policy_machine.specs.EntryStatus.{managed_entry_status}
use Rattle.policy_machine.specs.ExternalAuthenticate.{ExternalAuthenticateFails, external_authenticate, rules_before_form}
use Rattle.policy_machine.specs.Extradition.{managed_extradition}
use Rattle.policy_machine.specs.Refusal.{IsFirst}
use Rattle.policy_machine.specs.GetData.{get_data}
use Rattle.policy_machine.specs.GetStatus.{get_status}
use Rattle.policy_machine.specs.InitializeUpdate.{initialize_update}
use Rattle.policy_machine.specs.InstallApplication.{managed_install}
use Rattle.policy_machine.specs.InstallLoad.{install_load}
use Rattle.policy_machine.specs.Load.{loading}
use Rattle.policy_machine.specs.MakeSelectable.{managed_selectable}
use Rattle.policy_machine.specs.ManageChannel.{manage_channel}
use Rattle.policy_machine.specs.PutKey.{managed_put_key}
use Rattle.policy_machine.specs.Select.{select}
use Rattle.policy_machine.specs.State.{Effect}
use Rattle.policy_machine.specs.StoreData.{managed_store_data}
use Rattle.policy_machine.specs.declared.rule.Rule.{Rule}
use Rattle.policy_machine.specs.declared.rule.Rule.TheVariants.{EA, PS}
use Rattle.policy_machine.specs.declared.rule.RulePS.TheVariants.{P, S}
use Rattle.policy_machine.specs.ManagedForm.{command_form}

-- these forms where the test holds, and others where it does not
abbrev pub forms_if : Bool → List CommandForm → List CommandForm → List CommandForm
forms_if true these others = these
forms_if false these others = others

-- the forms of the instruction with this byte
abbrev pub forms_of : ℕ → List CommandForm
forms_of ins =
    forms_if (ins == select.instruction) (select ∷ [])
    (forms_if (ins == manage_channel.instruction) (manage_channel ∷ [])
    (forms_if (ins == get_data.instruction) (get_data ∷ [])
    (forms_if (ins == initialize_update.instruction) (initialize_update ∷ [])
    (forms_if (ins == external_authenticate.instruction) (external_authenticate ∷ [])
    (forms_if (ins == managed_put_key.judged.instruction) (command_form managed_put_key ∷ [])
    (forms_if (ins == managed_store_data.judged.instruction) (command_form managed_store_data ∷ [])
    (forms_if (ins == managed_delete_key.judged.instruction) (command_form managed_delete_key ∷ command_form managed_delete_object ∷ [])
    (forms_if (ins == managed_install.judged.instruction) (command_form managed_install ∷ command_form managed_selectable ∷ (command_form managed_extradition) ∷ install_load ∷ [])
    (forms_if (ins == managed_card_status.judged.instruction) (command_form managed_card_status ∷ command_form managed_entry_status ∷ [])
    (forms_if (ins == loading.instruction) (loading ∷ [])
    (forms_if (ins == get_status.instruction) (get_status ∷ []) [])))))))))))

-- it holds of one of these forms
abbrev pub OneOf : (CommandForm → Type 0) → List CommandForm → Type 0
OneOf holds [] = ⊥
OneOf holds (form ∷ forms) = holds form ⊎ OneOf holds forms

-- it holds of one of them at most
abbrev pub AtMostOne : (CommandForm → Type 0) → List CommandForm → Type 0
AtMostOne holds [] = Unit {0}
AtMostOne holds (form ∷ forms) = (holds form → OneOf holds forms → ⊥) × AtMostOne holds forms

-- the instruction with this byte has a form
abbrev pub IsBuilt : ℕ → Type 0
IsBuilt ins = OneOf (λ form. Unit {0}) (forms_of ins)

-- the form takes a command with this instruction, P1, P2 and data field
abbrev pub Takes : CommandForm → ℕ → ℕ → ℕ → List ℕ → Type 0
Takes form ins p1 p2 body = (ins ≡ form.instruction) × form.takes p1 p2 × form.takes_field p1 p2 body

-- the form takes this command
abbrev pub TakesCommand : CommandForm → Apdu → Type 0
TakesCommand form command = Takes form command.ins command.p1 command.p2 command.body

-- some form of the instruction takes this P1 and P2
abbrev pub HasParameters : ℕ → ℕ → ℕ → Type 0
HasParameters ins p1 p2 = OneOf (λ form. form.takes p1 p2) (forms_of ins)

-- some form of the instruction takes this data field with this P1 and P2
abbrev pub HasDataField : ℕ → ℕ → ℕ → List ℕ → Type 0
HasDataField ins p1 p2 body = OneOf (λ form. Takes form ins p1 p2 body) (forms_of ins)

-- the rules on the form of a command, and the one that stands before them
abbrev pub form_rules : ℕ → List Rule
form_rules ins = rules_before_form ins ++ PS P ∷ PS S ∷ []

abbrev pub FormFails : Admitted → Rule → Type 0
FormFails admitted (EA rule) = ExternalAuthenticateFails admitted (EA rule)
-- no form of the instruction takes P1 and P2
FormFails admitted (PS P) = HasParameters admitted.command.ins admitted.command.p1 admitted.command.p2 → ⊥
-- none of those that do takes the data field
FormFails admitted (PS S) = HasDataField admitted.command.ins admitted.command.p1 admitted.command.p2 admitted.command.body → ⊥
FormFails admitted rule = ⊥

-- the first of the rules on the form that fails, or none
abbrev pub JudgesForm : Admitted → Option Rule → Type 0
JudgesForm admitted found = IsFirst (FormFails admitted) (form_rules admitted.command.ins) found

-- a form takes the command, and this is the first of the form's own rules that fails, or none
abbrev pub JudgesAs : CommandForm → Admitted → Option Rule → Type 0
JudgesAs form admitted found = TakesCommand form admitted.command × FailsFirst form admitted found

-- a form takes the command, and does this
abbrev pub DoesAs : CommandForm → Admitted → Effect → Type 0
DoesAs form admitted done = TakesCommand form admitted.command × form.does admitted done

-- a rule on the form of the command fails, and it is the first
pub record IsMisformed (admitted : Admitted) (found : Option Rule) : Type 0 where
  pub rule : Rule
  pub found_is : found ≡ Some rule
  pub first : JudgesForm admitted (Some rule)

-- the first of the command's own rules that fails, or none: those on its form come first
abbrev pub Judges : Admitted → Option Rule → Type 0
Judges admitted found =
    IsMisformed admitted found
    ⊎ (JudgesForm admitted None × OneOf (λ form. JudgesAs form admitted found) (forms_of admitted.command.ins))

-- what it does, where none of them fails
abbrev pub HasEffect : Admitted → Effect → Type 0
HasEffect admitted done = OneOf (λ form. DoesAs form admitted done) (forms_of admitted.command.ins)
