-- What a run leaves on the device of a card. `device` is what contracts see of it.
use Rattle.std.specs.Prelude.{◌≡◌, ◌⊎◌, ℕ, List, [], ◌∷◌, ◌++◌, length, map}
use Rattle.card_core.specs.declared.power.PowerCause.{PowerCause}
use Rattle.card_core.specs.declared.power.PowerCause.TheVariants.{Memory, FlashFailed, NotACard}
use Rattle.card_types.specs.Registry.{Registry}
use Rattle.faults.specs.Faults.{Rose}
use Rattle.flash_core.specs.declared.flash.Flash.{Ghosts as Flash}
use Rattle.page_journal.specs.Moments.{Always, LeavesOnly}
use Rattle.policy_machine.specs.State.{State}
use Rattle.policy_machine.specs.Step.{Outcome}
use Rattle.rec_store.specs.Contents.{IsNoCard}
use Rattle.rec_store.specs.Reopens.{KeepsRegistry, Reopens, ReopensAsOne}

-- the registries that a run goes through: the one before it, and the one after each command
abbrev pub registries : State → List Outcome → List Registry
registries first outcomes = first.registry ∷ map (λ outcome. outcome.state.registry) outcomes

-- power lost at any moment between the two leaves one of these registries
abbrev pub LeavesOneOf : {F : Type 0} → Flash F → F → F → List Registry → Type 0
LeavesOneOf device old new all = device.tells → LeavesOnly device old new (ReopensAsOne all)

-- power lost now leaves one of these registries
abbrev pub LeftOneOf : {F : Type 0} → Flash F → F → List Registry → Type 0
LeftOneOf device flash all = device.tells → Always (device.may_leave flash) (ReopensAsOne all)

-- the status of a program whose card is not powered on
abbrev pub refusal_status : PowerCause → ℕ
refusal_status (Memory refused) = 7
refusal_status FlashFailed = 3
refusal_status NotACard = 4

-- the pages of a device hold a card
abbrev pub HoldsCard : {F : Type 0} → Flash F → F → Type 0
HoldsCard device flash = (registry : Registry) × Reopens (device.pages flash) registry

-- The card was not powered on: the device failed, or its pages are no card's. No command was processed, and power lost
-- leaves no registry that it could not leave before.
pub record IsNotPowered {F : Type 0} (device : Flash F) (status count : ℕ) (old new : F) : Type 0 where
  pub none : count ≡ 0
  pub why : ((status ≡ 3) × Rose (device.faults old) (device.faults new)) ⊎ ((status ≡ 4) × (device.tells → IsNoCard device old new))
  pub moments : device.tells → (all : List Registry) → Always (device.may_leave old) (ReopensAsOne all) → LeavesOnly device old new (ReopensAsOne all)

-- The device after a run of commands, all of which were counted: power lost now leaves the last registry, and left at no
-- moment one that is not of the run.
pub record HasRun {F : Type 0} (device : Flash F) (old new : F) (first : State) (count : ℕ) (outcomes : List Outcome) (last : State) : Type 0 where
  pub done : count ≡ length outcomes
  pub keeps : device.tells → KeepsRegistry device new last.registry
  pub moments : device.tells → Always (device.may_leave old) (λ outcome. Reopens outcome first.registry) → LeavesOnly device old new (ReopensAsOne (registries first outcomes))

-- The device failed in the command after them: power lost now leaves the registry from before that command or the one after
-- it.
pub record HasFailed {F : Type 0} (device : Flash F) (old new : F) (first : State) (count : ℕ) (outcomes : List Outcome) (last : State) (next : Outcome) : Type 0 where
  pub done : count ≡ length outcomes
  pub left : LeftOneOf device new (last.registry ∷ next.state.registry ∷ [])
  pub moments : device.tells → Always (device.may_leave old) (λ outcome. Reopens outcome first.registry) → LeavesOnly device old new (ReopensAsOne (registries first (outcomes ++ next ∷ [])))
