-- Which commands are confirmed, and by which receipt (GlobalPlatform Card Specification 2.3.1, 9.1.3.4, 11.1.6 and C.5).
use Rattle.std.specs.Prelude.{◌≡◌, ℕ, ◌+◌, List, ◌∷◌, None, Option, Some}
use Rattle.std.specs.Option.{option_map}
use Rattle.card_types.specs.Registry.{Key, Registry, entry_named}
use Rattle.tokens_receipts.specs.Receipt.{receipt}
use Rattle.policy_machine.specs.Admission.{Admits, Admitted}
use Rattle.policy_machine.specs.Commands.{OneOf, TakesCommand, forms_of}
use Rattle.policy_machine.specs.Delegation.{IsReceipter, unique_data}
use Rattle.policy_machine.specs.Management.{acting}
use Rattle.policy_machine.specs.Run.{Command, Input, Reset}
use Rattle.policy_machine.specs.State.{State, powered_on}
use Rattle.policy_machine.specs.Step.{Outcome, reply_bytes}

-- the number of the domain's last receipt
abbrev pub last_receipt : Registry → List ℕ → Option ℕ
last_receipt registry aid = option_map (λ entry. entry.receipts) (entry_named registry aid)

-- a form takes the command, and a receipt of it names these
abbrev pub ReceiptNames : Admitted → List (List ℕ) → Type 0
ReceiptNames admitted aids = OneOf (λ form. TakesCommand form admitted.command × form.confirms admitted aids) (forms_of admitted.command.ins)

-- The bytes are a command that is to be confirmed, no rule refuses it, and the domain is the receipter of the one that it acts for.
pub record IsReceiptedBy (state : State) (bytes : List ℕ) (outcome : Outcome) (domain : List ℕ) : Type 0 where
  pub accepted : outcome.rule ≡ None
  pub admitted : Admitted
  pub admits : Admits state bytes admitted
  pub aids : List (List ℕ)
  pub confirms : ReceiptNames admitted aids
  pub key : Key
  pub receipter : IsReceipter state.registry (acting admitted) domain key

-- the reply is the receipt with this number
abbrev pub RepliesReceipt : {state : State} {bytes : List ℕ} {outcome : Outcome} {domain : List ℕ} → IsReceiptedBy state bytes outcome domain → ℕ → Type 0
RepliesReceipt {state} {bytes} {outcome} {domain} is number =
    outcome.reply ≡ reply_bytes is.admitted.session (receipt is.key.bytes number (unique_data state.registry) is.aids) 0x9000

-- A domain's receipt number is one higher where it confirms the command, and the reply is then the receipt with that number.
-- Otherwise the number is the same.
abbrev pub CountsReceipts : State → List ℕ → Outcome → Type 0
CountsReceipts state bytes outcome =
    (domain : List ℕ) (before after : ℕ) → last_receipt state.registry domain ≡ Some before → last_receipt outcome.state.registry domain ≡ Some after
    → ((is : IsReceiptedBy state bytes outcome domain) → (after ≡ before + 1) × RepliesReceipt is after)
    × ((IsReceiptedBy state bytes outcome domain → ⊥) → after ≡ before)

-- each command of a run counts receipts so
abbrev pub AllCountReceipts : State → List Input → List Outcome → Type 0
AllCountReceipts state (Command bytes ∷ inputs) (outcome ∷ outcomes) = CountsReceipts state bytes outcome × AllCountReceipts outcome.state inputs outcomes
AllCountReceipts state (Reset ∷ inputs) outcomes = AllCountReceipts (powered_on state.registry) inputs outcomes
AllCountReceipts state inputs outcomes = Unit {0}
