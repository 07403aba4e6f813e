-- What a command is.
use Rattle.std.specs.Prelude.{ℕ, List, Option}
use Rattle.policy_machine.specs.Admission.{Admitted}
use Rattle.policy_machine.specs.Refusal.{IsFirst}
use Rattle.policy_machine.specs.State.{Effect}
use Rattle.policy_machine.specs.declared.rule.Rule.{Rule}

-- A form of a command: its instruction byte, the P1 and P2 that it takes, the data field that it takes with these, the rules of its
-- own in the order in which they are judged, when each of them fails, the AIDs that a receipt of it names, in this order, where it may have
-- one, and what it does where no rule fails.
pub record CommandForm : Type 1 where
  pub instruction : ℕ
  pub takes : (p1 p2 : ℕ) → Type 0
  pub takes_field : (p1 p2 : ℕ) → List ℕ → Type 0
  pub rules : List Rule
  pub fails : Admitted → Rule → Type 0
  pub confirms : Admitted → List (List ℕ) → Type 0
  pub does : Admitted → Effect → Type 0

-- One that no receipt confirms: its instruction byte, the P1 and P2, the data field, its rules, when each fails, and what it does.
abbrev pub unreceipted_form :
    ℕ → (ℕ → ℕ → Type 0) → (ℕ → ℕ → List ℕ → Type 0) → List Rule → (Admitted → Rule → Type 0) → (Admitted → Effect → Type 0) → CommandForm
unreceipted_form instruction takes takes_field rules fails does = record {
  instruction = instruction;
  takes = takes;
  takes_field = takes_field;
  rules = rules;
  fails = fails;
  confirms = λ admitted aids. ⊥;
  does = does;
}

-- the first of its own rules that fails, or none
abbrev pub FailsFirst : CommandForm → Admitted → Option Rule → Type 0
FailsFirst form admitted = IsFirst (form.fails admitted) form.rules
