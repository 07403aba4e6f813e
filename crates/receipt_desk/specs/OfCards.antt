-- The receipts that a card makes, at a desk.
use Rattle.std.specs.Prelude.{◌≡◌, ◌⊎◌, ℕ, ◌+◌, ◌≤◌, List, [], ◌∷◌, Some, IsSome, length}
use Rattle.card_types.specs.Registry.{Key, Registry, key_named}
use Rattle.card_types.specs.Well.{IsKeyLength, Well}
use Rattle.policy_machine.specs.Delegation.{unique_data}
use Rattle.policy_machine.specs.Receipts.{IsReceiptedBy, last_receipt}
use Rattle.policy_machine.specs.Run.{Command, Input, Reset, Run}
use Rattle.policy_machine.specs.Sound.{IsSound}
use Rattle.policy_machine.specs.State.{State, powered_on}
use Rattle.policy_machine.specs.Step.{IsAccepted, Outcome}
use Rattle.receipt_desk.specs.InTurn.{JudgedInTurn, Slip, fits_from}
use Rattle.receipt_desk.specs.Judgement.{Judged}
use Rattle.receipt_desk.specs.declared.verdict.Verdict.TheVariants.{Fits}

-- The data field of the reply to a command that a domain confirms fits at a desk with the domain's receipt key, the
-- card's unique data, and the domain's number before the command. The number that fits is the domain's number after it.
-- In a session the reply is protected, and opens to this data field at a host whose session is the card's.
abbrev pub ReceiptsFit : Type 0
ReceiptsFit =
    (state : State) (bytes : List ℕ) (outcome : Outcome) (domain : List ℕ) (before after : ℕ)
    → IsSound state → (accepts : IsAccepted state bytes outcome) → (is : IsReceiptedBy state bytes outcome domain)
    → last_receipt state.registry domain ≡ Some before → last_receipt outcome.state.registry domain ≡ Some after
    → Judged is.key.bytes (unique_data state.registry) before accepts.done.body is.aids (Fits after)

-- a desk takes any key that a domain of a card has, and the unique data of the card
abbrev pub DesksTakeThese : Type 0
DesksTakeThese =
    (registry : Registry) → Well registry
    → ((owner : List ℕ) (version identifier : ℕ) (key : Key) → key_named registry owner version identifier ≡ Some key → IsKeyLength (length key.bytes))
    × (length (unique_data registry) ≤ 20)

-- the slip of a command that a domain confirms: the data field of the reply, and the AIDs that the command was about
abbrev pub IsSlip : State → List ℕ → Outcome → List ℕ → Slip → Type 0
IsSlip state bytes outcome domain slip =
    (accepts : IsAccepted state bytes outcome) × (is : IsReceiptedBy state bytes outcome domain) × (slip ≡ record { reply = accepts.done.body; aids = is.aids })

-- the slips of a run in their order: one for each command that the domain confirms
abbrev pub AreSlips : List ℕ → State → List Input → List Outcome → List Slip → Type 0
AreSlips domain state [] outcomes slips = slips ≡ []
AreSlips domain state (Reset ∷ inputs) outcomes slips = AreSlips domain (powered_on state.registry) inputs outcomes slips
AreSlips domain state (Command bytes ∷ inputs) [] slips = slips ≡ []
AreSlips domain state (Command bytes ∷ inputs) (outcome ∷ outcomes) [] =
    (IsReceiptedBy state bytes outcome domain → ⊥) × AreSlips domain outcome.state inputs outcomes []
AreSlips domain state (Command bytes ∷ inputs) (outcome ∷ outcomes) (slip ∷ slips) =
    (IsSlip state bytes outcome domain slip × AreSlips domain outcome.state inputs outcomes slips)
    ⊎ ((IsReceiptedBy state bytes outcome domain → ⊥) × AreSlips domain outcome.state inputs outcomes (slip ∷ slips))

-- the domain stays on the card, and at each command that it confirms its receipt key and the card's unique data are these
abbrev pub KeepsReceiptKey : (domain key unique : List ℕ) → State → List Input → List Outcome → Type 0
KeepsReceiptKey domain key unique state [] outcomes = Unit {0}
KeepsReceiptKey domain key unique state (Reset ∷ inputs) outcomes = KeepsReceiptKey domain key unique (powered_on state.registry) inputs outcomes
KeepsReceiptKey domain key unique state (Command bytes ∷ inputs) [] = Unit {0}
KeepsReceiptKey domain key unique state (Command bytes ∷ inputs) (outcome ∷ outcomes) =
    IsSome (last_receipt outcome.state.registry domain)
    × ((is : IsReceiptedBy state bytes outcome domain) → (is.key.bytes ≡ key) × (unique_data state.registry ≡ unique))
    × KeepsReceiptKey domain key unique outcome.state inputs outcomes

-- Whoever lays all receipts of a domain before a desk, in the order of a run, is told that each fits. The desk begins with the domain's
-- number before the run, and ends with its number after the run.
abbrev pub ReceiptsOfRunsFit : Type 0
ReceiptsOfRunsFit =
    (state last : State) (inputs : List Input) (outcomes : List Outcome) (domain key unique : List ℕ) (slips : List Slip) (before after : ℕ)
    → IsSound state → Run state inputs outcomes last → KeepsReceiptKey domain key unique state inputs outcomes → AreSlips domain state inputs outcomes slips
    → last_receipt state.registry domain ≡ Some before → last_receipt last.registry domain ≡ Some after
    → JudgedInTurn key unique before slips (fits_from before slips) after × (after ≡ before + length slips)
