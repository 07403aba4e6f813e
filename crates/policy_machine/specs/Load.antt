-- LOAD (GlobalPlatform Card Specification 2.3.1, 9.3.5 and 11.6): a block of the Executable Load File that comes on the channel. With the
-- last one the file is there. Who may load, the limits and the order of the rules are this profile's own.
use Rattle.std.specs.Prelude.{◌≡◌, ◌≢◌, ◌⊎◌, ℕ, ◌==◌, ◌++◌, List, [], ◌∷◌, Some, codes}
use Rattle.apdu_core.specs.Apdu.{Apdu}
use Rattle.card_types.specs.Privileges.{delegated_management}
use Rattle.card_types.specs.Registry.{LoadFile, Registry}
use Rattle.card_types.specs.RegistryChange.{IsFileAdded}
use Rattle.policy_machine.specs.Admission.{Admitted}
use Rattle.policy_machine.specs.Charge.{IsAtOrAbove}
use Rattle.policy_machine.specs.CommandForm.{CommandForm}
use Rattle.policy_machine.specs.Delegation.{Holds, IsAnswered, no_confirmation, ReceiptFails}
use Rattle.policy_machine.specs.LoadBlocks.{Block, BringsBytes, HasNoLength, HasNoRoom, HasOtherCount, HasOtherHash, with_block}
use Rattle.policy_machine.specs.Management.{ManagementFails, acting}
use Rattle.policy_machine.specs.Refusal.{Refusal, refusal}
use Rattle.policy_machine.specs.State.{Effect, LoadSession, without_load}
use Rattle.policy_machine.specs.declared.delegation.RuleRC.TheVariants.{RC1}
use Rattle.policy_machine.specs.declared.load.RuleLO.{RuleLO}
use Rattle.policy_machine.specs.declared.load.RuleLO.TheVariants.{LO1, LO2, LO3, LO4, LO5, LO6, LO7, LO8}
use Rattle.policy_machine.specs.declared.management.RuleM.TheVariants.{M1, M2}
use Rattle.policy_machine.specs.declared.rule.Rule.{Rule}
use Rattle.policy_machine.specs.declared.rule.Rule.TheVariants.{LO, M}

-- P1 says whether more blocks come, or this is the last one; P2 is the number of the block
abbrev pub LoadParameters : ℕ → Type 0
LoadParameters p1 = (p1 ≡ 0x00) ⊎ (p1 ≡ 0x80)

-- the block that the command brings
abbrev pub block_of : Apdu → Block
block_of command = record { last = command.p1 == 0x80; field = command.body }

-- the load session is that of the command's channel
abbrev pub IsLoadOn : Admitted → LoadSession → Type 0
IsLoadOn admitted load = (admitted.at.volatile.load ≡ Some load) × (load.channel ≡ admitted.channel)

-- the channel has a load session, and this holds of it
abbrev pub InLoad : Admitted → (LoadSession → Type 0) → Type 0
InLoad admitted holds = (load : LoadSession) × IsLoadOn admitted load × holds load

abbrev pub load_refusal : RuleLO → Refusal
load_refusal LO1 = refusal (codes "LO1") 0x6985
load_refusal LO2 = refusal (codes "LO2") 0x6A86
load_refusal LO3 = refusal (codes "LO3") 0x6A80
load_refusal LO4 = refusal (codes "LO4") 0x6A84
load_refusal LO5 = refusal (codes "LO5") 0x6A80
load_refusal LO6 = refusal (codes "LO6") 0x6A80
load_refusal LO7 = refusal (codes "LO7") 0x6982
load_refusal LO8 = refusal (codes "LO8") 0x6985

-- whether a block may come, then what it brings, and with the last one whether the file may be added
abbrev pub front_rules : List Rule
front_rules = M M1 ∷ M M2 ∷ LO LO1 ∷ LO LO2 ∷ []

abbrev pub block_rules : List Rule
block_rules = LO LO3 ∷ LO LO4 ∷ LO LO5 ∷ LO LO6 ∷ []

abbrev pub last_rules : List Rule
last_rules = LO LO7 ∷ LO LO8 ∷ []

abbrev pub load_rules : List Rule
load_rules = front_rules ++ block_rules ++ last_rules

abbrev pub LoadingFails : Admitted → RuleLO → Type 0
-- the channel has no load session, or all block numbers were taken
LoadingFails admitted LO1 = ((load : LoadSession) → IsLoadOn admitted load → ⊥) ⊎ InLoad admitted (λ load. load.blocks ≡ 256)
-- P2 is not the number of the block that comes next
LoadingFails admitted LO2 = InLoad admitted (λ load. admitted.command.p2 ≢ load.blocks)
-- the first block announces no length
LoadingFails admitted LO3 = InLoad admitted (λ load. HasNoLength load (block_of admitted.command))
-- the file is too long, or there are not load pages enough
LoadingFails admitted LO4 = InLoad admitted (λ load. HasNoRoom admitted.at.registry load (block_of admitted.command))
-- more bytes have come than were announced, or with the last block fewer
LoadingFails admitted LO5 = InLoad admitted (λ load. HasOtherCount load (block_of admitted.command))
-- with the last block, the bytes have another hash
LoadingFails admitted LO6 = InLoad admitted (λ load. HasOtherHash load (block_of admitted.command))
-- with the last block, the domain that the file is to be in is neither the acting one nor below it
LoadingFails admitted LO7 =
    (admitted.command.p1 ≡ 0x80) × InLoad admitted (λ load. IsAtOrAbove admitted.at.registry (acting admitted) load.domain → ⊥)
-- with the last block, the domain that confirms a delegated command has made its last receipt
LoadingFails admitted LO8 = (admitted.command.p1 ≡ 0x80) × Holds admitted delegated_management × ReceiptFails admitted RC1

abbrev pub LoadFails : Admitted → Rule → Type 0
LoadFails admitted (M rule) = ManagementFails admitted rule
LoadFails admitted (LO rule) = LoadingFails admitted rule
LoadFails admitted rule = ⊥

-- the Executable Load File of a load session
abbrev pub file_of_load : LoadSession → LoadFile
file_of_load load = record { aid = load.aid; domain = load.domain; bytes = load.bytes }

-- the AIDs that a receipt of the last block names
abbrev pub about_load : LoadSession → List (List ℕ)
about_load load = load.aid ∷ load.domain ∷ []

-- it is the last block of a delegated load, and a receipt names these
abbrev pub LoadConfirms : Admitted → List (List ℕ) → Type 0
LoadConfirms admitted aids = Holds admitted delegated_management × (admitted.command.p1 ≡ 0x80) × InLoad admitted (λ load. aids ≡ about_load load)

-- More blocks come: the load session goes on as this one, and the registry stays as it is.
pub record LoadGoesOn (admitted : Admitted) (load : LoadSession) (done : Effect) : Type 0 where
  pub more : admitted.command.p1 ≡ 0x00
  pub registry : done.state.registry ≡ admitted.at.registry
  pub volatile : done.state.volatile ≡ record admitted.at.volatile { load = Some load }
  pub body : done.body ≡ 0x00 ∷ []

-- It was the last block: the file is there, the load session ends, and the command is answered about the file and its domain.
pub record EndsLoad (admitted : Admitted) (load : LoadSession) (done : Effect) : Type 0 where
  pub last : admitted.command.p1 ≡ 0x80
  pub changed : Registry
  pub added : IsFileAdded (file_of_load load) admitted.at.registry changed
  pub answered : IsAnswered (Holds admitted delegated_management) admitted (about_load load) changed no_confirmation done
  pub volatile : done.state.volatile ≡ without_load admitted.at.volatile admitted.channel

-- The block is counted and its bytes go after those that came.
pub record LoadEffect (admitted : Admitted) (done : Effect) : Type 0 where
  pub load : LoadSession
  pub on : IsLoadOn admitted load
  pub size : ℕ
  pub bytes : List ℕ
  pub brings : BringsBytes load.announced (block_of admitted.command) size bytes
  pub taken : LoadGoesOn admitted (with_block load size bytes) done ⊎ EndsLoad admitted (with_block load size bytes) done
  pub status : done.status ≡ 0x9000

-- LOAD
abbrev pub loading : CommandForm
loading = record {
  instruction = 0xE8;
  takes = λ p1 p2. LoadParameters p1;
  takes_field = λ p1 p2 body. body ≢ [];
  rules = load_rules;
  fails = LoadFails;
  confirms = LoadConfirms;
  does = LoadEffect;
}
