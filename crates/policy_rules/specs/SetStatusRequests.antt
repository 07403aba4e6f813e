-- For the code inside. What the code reads of a SET STATUS, and what it finds.
use Rattle.std.specs.Prelude.{◌≡◌, ◌≢◌, ◌⊎◌, ℕ, ◌==◌, List, false, true, MatchOption, Option}
use Rattle.apdu_core.specs.Apdu.{Apdu}
use Rattle.card_types.specs.Aid.{IsAid}
use Rattle.card_types.specs.Privileges.{has, security_domain}
use Rattle.card_types.specs.Registry.{entry_named}
use Rattle.card_types.specs.Represents.{thing_in}
use Rattle.card_types.specs.declared.card_life.CardLife.{CardLife}
use Rattle.card_types.specs.declared.factory.TheConstants.{ISSUER}
use Rattle.card_types.specs.declared.life.Life.TheVariants.{Selectable}
use Rattle.card_types.specs.declared.life.LifeMark.{LifeMark}
use Rattle.card_types.specs.declared.tables.Entry.{Entry}
use Rattle.domain_tree.specs.Above.{IsAboveIn}
use Rattle.policy_machine.specs.Admission.{Admitted}
use Rattle.policy_machine.specs.CardStatus.{CardStatusParameters, IsLocking, IsPreparing, IsTerminating, card_lock, card_terminate}
use Rattle.policy_machine.specs.Delegation.{Holds}
use Rattle.policy_machine.specs.EntryStatus.{EntryStatusParameters, IsEntryStep, Marks, PersonalizesItself, global_lock}
use Rattle.policy_machine.specs.Extradition.{is_personalized}
use Rattle.policy_machine.specs.Management.{acting}
use Rattle.policy_rules.specs.declared.card_status.CardStep.{CardStep}
use Rattle.policy_rules.specs.declared.card_status.CardStep.TheVariants.{Prepare, Lock, Terminate}
use Rattle.policy_rules.specs.declared.entry_status.EntryStatusRequest.{EntryStatusRequest}
use Rattle.policy_rules.specs.declared.entry_status.StatusChange.{StatusChange}
use Rattle.policy_rules.specs.declared.entry_status.StatusChange.TheVariants.{One, Tree}

-- The code is that of a SET STATUS of the card.
pub record IsCardStatusOf (code : ℕ) (command : Apdu) : Type 0 where
  pub parameters : CardStatusParameters command.p1 command.p2
  pub code_is : code ≡ command.p2

-- the step is of this kind
abbrev pub IsStepBy : CardStep → CardLife → ℕ → Type 0
IsStepBy Prepare life code = IsPreparing life code
IsStepBy Lock life code = IsLocking life code
IsStepBy Terminate life code = IsTerminating code

-- the acting domain may take a step of this kind
abbrev pub MayStep : CardStep → Admitted → Type 0
MayStep Prepare admitted = acting admitted ≡ ISSUER
MayStep Lock admitted = Holds admitted card_lock
MayStep Terminate admitted = Holds admitted card_terminate

-- The request is that of a command with this P1, P2 and data field.
pub record IsEntryStatusRequest (request : EntryStatusRequest) (p1 p2 : ℕ) (body : List ℕ) : Type 0 where
  pub parameters : EntryStatusParameters p1 p2
  pub field : IsAid body
  pub tree : request.tree ≡ (p1 == 0x60)
  pub life : request.life ≡ p2
  pub aid : request.aid ≡ body

-- The request is that of this command.
abbrev pub IsEntryStatusOf : EntryStatusRequest → Apdu → Type 0
IsEntryStatusOf request command = IsEntryStatusRequest request command.p1 command.p2 command.body

-- the acting domain may set the entry
abbrev pub MaySet : Admitted → Type 0
MaySet admitted =
    (IsAboveIn admitted.at.registry (acting admitted) admitted.command.body ⊎ Holds admitted global_lock) ⊎ PersonalizesItself admitted

-- the steps of the entry in a slot: another lock mark, or a security domain is personalized
abbrev pub IsSlotStep : EntryStatusRequest → Entry → LifeMark → Type 0
IsSlotStep request entry life =
    (Marks request.life life.locked × (entry.life.locked ≡ life.locked → ⊥) × (life.life ≡ entry.life.life))
    ⊎ ((request.tree ≡ false) × (request.life ≡ 0x0F) × (has security_domain entry.privileges ≡ true)
    × (entry.life ≡ record { life = Selectable; locked = false }) × (life ≡ is_personalized))

-- the slot of what is set
abbrev pub slot_of : StatusChange → ℕ
slot_of (One entry life) = entry
slot_of (Tree domain locked) = domain

-- one entry comes to another life cycle state or lock mark than it has
abbrev pub IsOther : List (Option Entry) → StatusChange → Type 0
IsOther entries (One entry life) = MatchOption (thing_in entries entry) ⊥ (λ slot. slot.life ≢ life)
IsOther entries (Tree domain locked) = Unit {0}

-- what was found is the step that the command asks for, or the lock mark of all
abbrev pub IsChangeFor : Admitted → StatusChange → Type 0
IsChangeFor admitted (One entry life) =
    (admitted.command.p1 ≡ 0x40)
    × MatchOption (entry_named admitted.at.registry admitted.command.body) ⊥ (λ named. IsEntryStep admitted.command.p1 admitted.command.p2 named life)
IsChangeFor admitted (Tree domain locked) = (admitted.command.p1 ≡ 0x60) × Marks admitted.command.p2 locked
