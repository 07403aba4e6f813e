-- Providers apart: what a command of one security domain leaves of the tree of another (GlobalPlatform Card Specification 2.3.1,
-- 7.2 and 9.1.3).
use Rattle.std.specs.Prelude.{◌≡◌, ◌⊎◌, ℕ, List, Contains, None}
use Rattle.card_types.specs.Privileges.{delegated_management}
use Rattle.card_types.specs.Registry.{Key, Registry}
use Rattle.domain_tree.specs.Above.{IsAboveIn}
use Rattle.tokens_receipts.specs.Token.{token}
use Rattle.policy_machine.specs.Admission.{Admits, Admitted, Of}
use Rattle.policy_machine.specs.Charge.{HoldsPrivilege, IsAtOrAbove}
use Rattle.apdu_core.specs.ClassBytes.{channel_of}
use Rattle.policy_machine.specs.Classes.{changing}
use Rattle.policy_machine.specs.Commands.{TakesCommand}
use Rattle.policy_machine.specs.DeleteObject.{global_delete}
use Rattle.policy_machine.specs.Delegation.{Holds, IsVerifier}
use Rattle.policy_machine.specs.EntryStatus.{global_lock}
use Rattle.policy_machine.specs.Extradition.{AsksToExtradite, managed_extradition}
use Rattle.policy_machine.specs.InstallFields.{InstallData, approval_in}
use Rattle.policy_machine.specs.ManagedForm.{command_form}
use Rattle.policy_machine.specs.Management.{acting}
use Rattle.policy_machine.specs.State.{State, selected_on}
use Rattle.policy_machine.specs.Step.{Outcome}
use Rattle.policy_machine.specs.Trees.{AFile, Member, member_place}

-- The bytes are a command that may change the registry, no rule refuses it, and it acts for this domain: the one that is selected on
-- its channel.
abbrev pub ActsFor : State → List ℕ → Outcome → List ℕ → Type 0
ActsFor state bytes outcome domain =
    (outcome.rule ≡ None) × Of bytes (λ command. Contains changing command.ins × (domain ≡ selected_on state.volatile (channel_of command.class)))

-- A domain has power over itself, over those below it and above it, and over all where it holds Global Delete or Global Lock.
abbrev pub HasPowerOver : Registry → List ℕ → List ℕ → Type 0
HasPowerOver registry one other =
    (one ≡ other) ⊎ IsAboveIn registry one other ⊎ IsAboveIn registry other one
    ⊎ HoldsPrivilege registry global_delete one ⊎ HoldsPrivilege registry global_lock one

-- the command acts for no domain that has power over this one
abbrev pub Spares : State → List ℕ → Outcome → List ℕ → Type 0
Spares state bytes outcome domain = (one : List ℕ) → ActsFor state bytes outcome one → HasPowerOver state.registry one domain → ⊥

-- it moves with the thing: it is the Executable Load File itself, or has its place at the thing or below it
abbrev pub MovesWith : Registry → List ℕ → Member → Type 0
MovesWith registry thing (AFile file) = (file.aid ≡ thing) ⊎ IsAtOrAbove registry thing file.domain
MovesWith registry thing member = IsAtOrAbove registry thing (member_place member)

-- A delegated extradition moves the member, with the thing, to the domain or to one below it. The verifier of the domain that it acts
-- for is above the domain that gets it, and has signed the token.
pub record IsEntrusted (admitted : Admitted) (domain : List ℕ) (member : Member) : Type 0 where
  pub takes : TakesCommand (command_form managed_extradition) admitted.command
  pub given : InstallData
  pub asks : AsksToExtradite admitted.command.body given
  pub delegated : Holds admitted delegated_management
  pub moves : MovesWith admitted.at.registry given.third member
  pub into : IsAtOrAbove admitted.at.registry domain given.first
  pub verifier : List ℕ
  pub key : Key
  pub verifies : IsVerifier admitted.at.registry (acting admitted) verifier key
  pub above : IsAboveIn admitted.at.registry verifier domain
  pub signed : (approval_in given).token ≡ token key.bytes admitted.command.p1 admitted.command.p2 (approval_in given).before

-- the bytes are such a command, and no rule refuses it
abbrev pub BringsInto : State → List ℕ → Outcome → List ℕ → Member → Type 0
BringsInto state bytes outcome domain member =
    (outcome.rule ≡ None) × ((admitted : Admitted) × Admits state bytes admitted × IsEntrusted admitted domain member)
