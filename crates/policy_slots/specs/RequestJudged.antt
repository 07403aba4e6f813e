-- For the code inside. Forms whose commands are judged for what they ask for, those whose commands a token may approve, and what the code
-- reads of such a command.
use Rattle.std.specs.Prelude.{◌≡◌, Bool, true, false, List, [], ◌∷◌, ◌++◌, Some, map}
use Rattle.apdu_core.specs.Apdu.{Apdu}
use Rattle.policy_machine.specs.Admission.{Admitted}
use Rattle.policy_machine.specs.Delegation.{token_rules}
use Rattle.policy_machine.specs.ManagedForm.{JudgedForm, OwnFirst}
use Rattle.policy_machine.specs.declared.delegation.RuleRC.TheVariants.{RC1}
use Rattle.policy_machine.specs.declared.management.RuleM.TheVariants.{M1, M2}
use Rattle.policy_machine.specs.declared.rule.Rule.{Rule}
use Rattle.policy_machine.specs.declared.rule.Rule.TheVariants.{RC, TK}
use Rattle.policy_slots.specs.HoldersFound.{approval_of}
use Rattle.policy_slots.specs.declared.delegation.Signed.{Signed}

-- the rule on the receipt, where there may be one
abbrev pub receipt_rules : Bool → List Rule
receipt_rules true = RC RC1 ∷ []
receipt_rules false = []

-- A form whose commands a token may approve, and a receipt confirm or none.
pub record IsTokenForm (form : JudgedForm) (receipted : Bool) : Type 0 where
  pub first_rules : form.first_rules ≡ M1 ∷ M2 ∷ []
  pub approval_rules : form.delegation.rules ≡ map TK token_rules ++ receipt_rules receipted

-- A command asks for this, and brings this for its approval.
pub record IsBroughtFor (form : JudgedForm) (command : Apdu) (asked : form.Asked) (brought : Signed) : Type 0 where
  pub asks : form.asks command.p1 command.p2 command.body asked
  pub parameters : (brought.p1 ≡ command.p1) × (brought.p2 ≡ command.p2)
  pub approval : approval_of brought ≡ form.delegation.approval asked

-- of the form's own rules this one is the first that fails for what is asked
abbrev pub OwnRefuses : (form : JudgedForm) → Admitted → form.Asked → Rule → Type 0
OwnRefuses form admitted asked rule = (own : form.own.One) × (form.own.group own ≡ rule) × OwnFirst form admitted asked (Some own)
