-- DELETE of an application, a security domain or an Executable Load File (GlobalPlatform Card Specification 2.3.1, 9.5 and 11.2). Who may
-- delete what, and the order of the rules, are this profile's own.
use Rattle.std.specs.Prelude.{◌≡◌, ◌≢◌, ◌⊎◌, ℕ, ◌++◌, List, [], ◌∷◌, Contains, MatchOption, None, codes}
use Rattle.bertlv.specs.Spelling.{Spelling}
use Rattle.card_types.specs.Aid.{IsAid}
use Rattle.card_types.specs.Privileges.{delegated_management}
use Rattle.card_types.specs.Registry.{Entry, LoadFile, Registry, entry_named, file_named}
use Rattle.card_types.specs.RegistryChange.{without_applications, without_entry, without_file}
use Rattle.card_types.specs.declared.factory.TheConstants.{FACTORY_FILE, ISSUER}
use Rattle.policy_machine.specs.Admission.{Admitted}
use Rattle.policy_machine.specs.Charge.{IsInCharge}
use Rattle.policy_machine.specs.DeleteKey.{DeleteParameters}
use Rattle.policy_machine.specs.Delegation.{Approval, Holds, MayManage, delegation_rules, no_confirmation}
use Rattle.policy_machine.specs.Management.{acting}
use Rattle.policy_machine.specs.Refusal.{Refusal, refusal}
use Rattle.policy_machine.specs.State.{Volatile, channel_at}
use Rattle.policy_machine.specs.declared.delete_object.RuleDO.{RuleDO}
use Rattle.policy_machine.specs.declared.delete_object.RuleDO.TheVariants.{DO1, DO2, DO3, DO4}
use Rattle.policy_machine.specs.declared.rule.Rule.TheVariants.{DO}
use Rattle.policy_machine.specs.ManagedForm.{ManagedForm, content_form, ordered_rules}

-- what is asked for: the AID of the thing, and what approves it
pub record DeletionAsked : Type 0 where
  pub aid : List ℕ
  pub approval : Approval

-- nothing, or a token (9E)
abbrev pub IsTokenField : List ℕ → List ℕ → Type 0
IsTokenField token field = ((field ≡ []) × (token ≡ [])) ⊎ Spelling 0x9E token field

-- The data field is the AID (4F), and then a token or nothing. What stands before the token is signed.
pub record AsksToDelete (body : List ℕ) (asked : DeletionAsked) : Type 0 where
  pub aid : IsAid asked.aid
  pub named : Spelling 0x4F asked.aid asked.approval.before
  pub token_field : List ℕ
  pub approved : IsTokenField asked.approval.token token_field
  pub joined : body ≡ asked.approval.before ++ token_field

-- the privilege Global Delete (11.1.2)
abbrev pub global_delete : ℕ
global_delete = 0x001000

-- a domain with Delegated Management deletes as it is delegated to, unless it may delete whatever it wants
abbrev pub IsDelegated : Admitted → Type 0
IsDelegated admitted = Holds admitted delegated_management × (Holds admitted global_delete → ⊥)

-- the entry with this AID comes from the Executable Load File
abbrev pub ComesFrom : Registry → List ℕ → List ℕ → Type 0
ComesFrom registry file aid = MatchOption (entry_named registry aid) ⊥ (λ entry. entry.file ≡ file)

-- what is to go: the thing, and with P2 80 what comes from it
abbrev pub IsToGo : Admitted → List ℕ → List ℕ → Type 0
IsToGo admitted thing aid = (aid ≡ thing) ⊎ ((admitted.command.p2 ≡ 0x80) × ComesFrom admitted.at.registry thing aid)

-- it is selected on a channel
abbrev pub IsSelected : Volatile → List ℕ → Type 0
IsSelected volatile aid = (number : ℕ) × MatchOption (channel_at volatile number) ⊥ (λ channel. channel.selected ≡ aid)

-- the Executable Load File that comes in blocks is to be in it
abbrev pub IsLoadedInto : Volatile → List ℕ → Type 0
IsLoadedInto volatile aid = MatchOption volatile.load ⊥ (λ load. load.domain ≡ aid)

-- it is the domain of another entry, or of an Executable Load File
abbrev pub HasOthers : Registry → List ℕ → Type 0
HasOthers registry aid =
    ((entry : Entry) × Contains registry.entries entry × (entry.domain ≡ aid) × (entry.aid ≢ aid))
    ⊎ ((file : LoadFile) × Contains registry.files file × (file.domain ≡ aid))

-- it is in use
abbrev pub IsInUse : Admitted → List ℕ → Type 0
IsInUse admitted aid = IsSelected admitted.at.volatile aid ⊎ IsLoadedInto admitted.at.volatile aid ⊎ HasOthers admitted.at.registry aid

abbrev pub delete_object_refusal : RuleDO → Refusal
delete_object_refusal DO1 = refusal (codes "DO1") 0x6A88
delete_object_refusal DO2 = refusal (codes "DO2") 0x6985
delete_object_refusal DO3 = refusal (codes "DO3") 0x6982
delete_object_refusal DO4 = refusal (codes "DO4") 0x6985

abbrev pub DeletingFails : Admitted → DeletionAsked → RuleDO → Type 0
-- nothing has the AID
DeletingFails admitted asked DO1 = (entry_named admitted.at.registry asked.aid ≡ None) × (file_named admitted.at.registry asked.aid ≡ None)
-- it is the Issuer Security Domain or the factory's Executable Load File
DeletingFails admitted asked DO2 = (asked.aid ≡ ISSUER) ⊎ (asked.aid ≡ FACTORY_FILE)
-- without Global Delete, the domain does not manage content, or something that is to go is not in its charge
DeletingFails admitted asked DO3 =
    (Holds admitted global_delete → ⊥)
    × ((MayManage admitted → ⊥)
    ⊎ ((aid : List ℕ) × IsToGo admitted asked.aid aid × (IsInCharge admitted.at.registry (acting admitted) aid → ⊥)))
-- something that is to go is in use, or something comes from the Executable Load File that is to go alone
DeletingFails admitted asked DO4 =
    ((aid : List ℕ) × IsToGo admitted asked.aid aid × IsInUse admitted aid)
    ⊎ ((admitted.command.p2 ≡ 0x00) × ((aid : List ℕ) × ComesFrom admitted.at.registry asked.aid aid))

-- the registry without the thing, without what comes from it, and without the keys, sequence counters and data objects that it owns
abbrev pub without_thing : Registry → List ℕ → Registry
without_thing registry aid = without_file (without_entry (without_applications registry aid) aid) aid

-- What is to go is gone, and a receipt names the thing.
abbrev pub managed_delete_object : ManagedForm
managed_delete_object = record {
  judged = record (content_form 0xE4 DeleteParameters (λ p1 p2. AsksToDelete)) {
    own = ordered_rules DO (DO1 ∷ DO2 ∷ DO3 ∷ DO4 ∷ []) DeletingFails;
    delegation = record { is_delegated = IsDelegated; approval = λ asked. asked.approval; about = λ admitted asked. asked.aid ∷ []; rules = delegation_rules };
  };
  becomes = λ admitted asked changed. changed ≡ without_thing admitted.at.registry asked.aid;
  reply = λ asked. no_confirmation;
}
