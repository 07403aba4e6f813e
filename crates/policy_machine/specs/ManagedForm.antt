-- Card content management: what a form of these commands asks for, by which rules it is judged, and what it makes of the registry
-- (GlobalPlatform Card Specification 2.3.1, chapter 9).
use Rattle.std.specs.Prelude.{◌≡◌, ℕ, List, [], ◌++◌, Option, map, ◌∷◌}
use Rattle.card_types.specs.Privileges.{delegated_management}
use Rattle.card_types.specs.Registry.{Registry}
use Rattle.policy_machine.specs.Admission.{Admitted}
use Rattle.policy_machine.specs.CommandForm.{CommandForm}
use Rattle.policy_machine.specs.Delegation.{Approval, Holds, IsAnswered, ReceiptFails, TokenFails, delegation_rules}
use Rattle.policy_machine.specs.Management.{ManagementFails}
use Rattle.policy_machine.specs.Refusal.{IsFirst}
use Rattle.policy_machine.specs.State.{Effect}
use Rattle.policy_machine.specs.declared.management.RuleM.{RuleM}
use Rattle.policy_machine.specs.declared.management.RuleM.TheVariants.{M1, M2}
use Rattle.policy_machine.specs.declared.rule.Rule.{Rule}
use Rattle.policy_machine.specs.declared.rule.Rule.TheVariants.{M, RC, TK}

-- How commands of a form are delegated: when one is, what approves it then, the AIDs that a receipt names, in this order, and the rules
-- on the approval, which are judged last.
pub record Delegation (Asked : Type 0) : Type 1 where
  pub is_delegated : Admitted → Type 0
  pub approval : Asked → Approval
  pub about : Admitted → Asked → List (List ℕ)
  pub rules : List Rule

-- those of a domain with Delegated Management are
abbrev pub to_holders : {Asked : Type 0} → (Asked → Approval) → (Admitted → Asked → List (List ℕ)) → Delegation Asked
to_holders approval about = record { is_delegated = λ admitted. Holds admitted delegated_management; approval = approval; about = about; rules = delegation_rules }

-- none is: no token is read, and no receipt is made
abbrev pub to_nobody : {Asked : Type 0} → Delegation Asked
to_nobody = record { is_delegated = λ admitted. ⊥; approval = λ asked. record { before = []; token = [] }; about = λ admitted asked. []; rules = [] }

-- Rules that are a form's own: they are a group of the rules, and are judged in this order; and when one fails for what is asked.
pub record OwnRules (Asked : Type 0) : Type 1 where
  pub One : Type 0
  pub group : One → Rule
  pub order : List One
  pub fails : Admitted → Asked → One → Type 0

abbrev pub ordered_rules : {Asked One : Type 0} → (One → Rule) → List One → (Admitted → Asked → One → Type 0) → OwnRules Asked
ordered_rules group order fails = record { One = _; group = group; order = order; fails = fails }

-- How a form is judged: its instruction byte, the P1 and P2 that it takes, what the data field asks for with these, the rules on the
-- card and the acting domain, which come first, those of its own, and its delegation.
pub record JudgedForm : Type 1 where
  pub instruction : ℕ
  pub takes : (p1 p2 : ℕ) → Type 0
  pub Asked : Type 0
  pub asks : (p1 p2 : ℕ) → List ℕ → Asked → Type 0
  pub first_rules : List RuleM
  pub own : OwnRules Asked
  pub delegation : Delegation Asked

-- A form of card content management: its instruction byte, the P1 and P2 that it takes, and what its data field asks for. M1 and M2 come
-- first. A form says besides which rules it has of its own, and how it is delegated, or which others come first.
abbrev pub content_form : {Asked : Type 0} → ℕ → (ℕ → ℕ → Type 0) → (ℕ → ℕ → List ℕ → Asked → Type 0) → JudgedForm
content_form instruction takes asks = record {
  instruction = instruction;
  takes = takes;
  Asked = _;
  asks = asks;
  first_rules = M1 ∷ M2 ∷ [];
  own = ordered_rules M [] (λ admitted asked rule. ⊥);
  delegation = to_nobody;
}

-- the command asks for this
abbrev pub CommandAsks : (form : JudgedForm) → Admitted → form.Asked → Type 0
CommandAsks form admitted = form.asks admitted.command.p1 admitted.command.p2 admitted.command.body

-- a rule fails for what is asked; those on the approval do so for a delegated command alone
abbrev pub AskedFails : (form : JudgedForm) → Admitted → form.Asked → Rule → Type 0
AskedFails form admitted asked (TK rule) = form.delegation.is_delegated admitted × TokenFails admitted (form.delegation.approval asked) rule
AskedFails form admitted asked (RC rule) = form.delegation.is_delegated admitted × ReceiptFails admitted rule
AskedFails form admitted asked rule = (own : form.own.One) × (form.own.group own ≡ rule) × form.own.fails admitted asked own

abbrev pub JudgedFails : JudgedForm → Admitted → Rule → Type 0
JudgedFails form admitted (M rule) = ManagementFails admitted rule
JudgedFails form admitted rule = (asked : form.Asked) × CommandAsks form admitted asked × AskedFails form admitted asked rule

-- its rules, in the order in which they are judged, and the first that fails, or none
abbrev pub judged_rules : JudgedForm → List Rule
judged_rules form = map M form.first_rules ++ map form.own.group form.own.order ++ form.delegation.rules

abbrev pub JudgedFirst : JudgedForm → Admitted → Option Rule → Type 0
JudgedFirst form admitted = IsFirst (JudgedFails form admitted) (judged_rules form)

-- the command that is judged so, may have a receipt that names these, and does this
abbrev pub judged_form : JudgedForm → (Admitted → List (List ℕ) → Type 0) → (Admitted → Effect → Type 0) → CommandForm
judged_form form confirms does = record {
  instruction = form.instruction;
  takes = form.takes;
  takes_field = λ p1 p2 body. (asked : form.Asked) × form.asks p1 p2 body asked;
  rules = judged_rules form;
  fails = JudgedFails form;
  confirms = confirms;
  does = does;
}

-- What a form makes of the registry: the one that is left, but for the number of a receipt, and the data field of the reply where
-- there is no receipt.
pub record ManagedForm : Type 1 where
  pub judged : JudgedForm
  pub becomes : Admitted → judged.Asked → Registry → Type 0
  pub reply : judged.Asked → List ℕ

-- The registry becomes what is asked for, nothing else of the card changes, and the command is answered.
pub record ManagedEffect (form : ManagedForm) (admitted : Admitted) (done : Effect) : Type 0 where
  pub asked : form.judged.Asked
  pub asks : CommandAsks form.judged admitted asked
  pub changed : Registry
  pub becomes : form.becomes admitted asked changed
  pub answered : IsAnswered (form.judged.delegation.is_delegated admitted) admitted (form.judged.delegation.about admitted asked) changed (form.reply asked) done
  pub volatile : done.state.volatile ≡ admitted.at.volatile
  pub status : done.status ≡ 0x9000

-- it is delegated, and a receipt names these
abbrev pub ManagedConfirms : (form : ManagedForm) → Admitted → List (List ℕ) → Type 0
ManagedConfirms form admitted aids =
    form.judged.delegation.is_delegated admitted
    × ((asked : form.judged.Asked) × CommandAsks form.judged admitted asked × (aids ≡ form.judged.delegation.about admitted asked))

abbrev pub command_form : ManagedForm → CommandForm
command_form form = judged_form form.judged (ManagedConfirms form) (ManagedEffect form)

-- the first of a form's own rules that fails for what is asked, or none
abbrev pub OwnFirst : (form : JudgedForm) → Admitted → form.Asked → Option form.own.One → Type 0
OwnFirst form admitted asked = IsFirst (form.own.fails admitted asked) form.own.order

-- For the code inside. Forms whose commands are judged for what they ask for.

-- a rule on what is asked, and one that is not on its approval
abbrev pub IsOnAsked : Rule → Type 0
IsOnAsked (M rule) = ⊥
IsOnAsked rule = Unit {0}

abbrev pub IsOwn : Rule → Type 0
IsOwn (M rule) = ⊥
IsOwn (TK rule) = ⊥
IsOwn (RC rule) = ⊥
IsOwn rule = Unit {0}

-- it holds of each of these rules
abbrev pub OfEach : {R : Type 0} → (R → Type 0) → List R → Type 0
OfEach holds [] = Unit {0}
OfEach holds (rule ∷ rules) = holds rule × OfEach holds rules

-- A data field asks for one thing, and the rules are of their kinds.
pub record IsJudgeable (form : JudgedForm) : Type 0 where
  pub one_asked : (p1 p2 : ℕ) (body : List ℕ) (a b : form.Asked) → form.asks p1 p2 body a → form.asks p1 p2 body b → a ≡ b
  pub own : (one : form.own.One) → IsOwn (form.own.group one)
  pub one_rule : (a b : form.own.One) → form.own.group a ≡ form.own.group b → a ≡ b
  pub approving : OfEach IsOnAsked form.delegation.rules
