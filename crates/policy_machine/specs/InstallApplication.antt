-- INSTALL [for install] (GlobalPlatform Card Specification 2.3.1, 9.3.2 and 11.5): an application or a security domain is made from a
-- Module of an Executable Load File. Which privileges are granted to whom, and the order of the rules, are this profile's own.
use Rattle.std.specs.Prelude.{◌≡◌, ◌≢◌, ◌⊎◌, ℕ, ◌≤◌, List, [], ◌∷◌, Contains, MatchOption, None, codes, false, true, IsSome, if◌then◌else◌, length, ◌==◌, ◌&&◌}
use Rattle.std.specs.Int.RustNames.{bit_and}
use Rattle.bertlv.specs.Spelling.{AreElements, Element}
use Rattle.card_types.specs.Aid.{IsAid, same_aid}
use Rattle.card_types.specs.Privileges.{ArePrivilegeBytes, authorized_management, bits_of, delegated_management, has, receipt_generation, token_verification}
use Rattle.card_types.specs.Registry.{Entry, entry_named, file_named, is_domain}
use Rattle.card_types.specs.RegistryChange.{IsEntryAdded}
use Rattle.card_types.specs.Well.{has_domain_privilege}
use Rattle.card_types.specs.declared.factory.TheConstants.{FACTORY_FILE, FACTORY_MODULE}
use Rattle.card_types.specs.declared.life.Life.TheVariants.{Installed, Selectable}
use Rattle.card_types.specs.declared.limits.TheConstants.{ENTRIES}
use Rattle.card_types.specs.declared.privileges.Privileges.{Privileges}
use Rattle.policy_machine.specs.Admission.{Admitted}
use Rattle.policy_machine.specs.Charge.{IsFileInCharge}
use Rattle.policy_machine.specs.Delegation.{Holds, MayManage, no_confirmation}
use Rattle.policy_machine.specs.InstallFields.{InstallData, IsInstallData, approval_in}
use Rattle.policy_machine.specs.Management.{acting}
use Rattle.policy_machine.specs.Refusal.{Refusal, refusal}
use Rattle.policy_machine.specs.declared.install_application.RuleII.{RuleII}
use Rattle.policy_machine.specs.declared.install_application.RuleII.TheVariants.{II1, II2, II3, II4, II5, II6, II7}
use Rattle.policy_machine.specs.declared.rule.Rule.TheVariants.{II}
use Rattle.policy_machine.specs.ManagedForm.{ManagedForm, content_form, ordered_rules, to_holders}

-- P1 is 04, or 0C where the application is made selectable too; P2 is 00
abbrev pub InstallParameters : ℕ → ℕ → Type 0
InstallParameters p1 p2 = ((p1 ≡ 0x04) ⊎ (p1 ≡ 0x0C)) × (p2 ≡ 0x00)

-- the install parameters are data objects, those of the application (C9) among them
abbrev pub AreInstallParameters : List ℕ → Type 0
AreInstallParameters bytes =
    (elements : List Element) × AreElements elements bytes × (element : Element) × Contains elements element × (element.tag ≡ 0xC9)

-- what is asked for: the AIDs of the Executable Load File, the Module and the application, its privileges, install parameters and a token
pub record InstallAsked : Type 0 where
  pub given : InstallData
  pub privileges : Privileges

pub record AsksToInstall (body : List ℕ) (asked : InstallAsked) : Type 0 where
  pub fields : IsInstallData asked.given body
  pub file : IsAid asked.given.first
  pub module_ : IsAid asked.given.second
  pub aid : IsAid asked.given.third
  pub privileges : ArePrivilegeBytes asked.privileges asked.given.privileges
  pub parameters : AreInstallParameters asked.given.parameters

-- the entry that is made: in the domain that the command acts for
abbrev pub entry_made : Admitted → InstallAsked → Entry
entry_made admitted asked = record {
  aid = asked.given.third;
  domain = acting admitted;
  file = asked.given.first;
  module_ = asked.given.second;
  life = record { life = if admitted.command.p1 == 0x0C then Selectable else Installed; locked = false };
  privileges = asked.privileges;
  receipts = 0;
}

-- DAP Verification, Mandated DAP, Final Application and Ciphered Load File Data Block, which this card grants to nobody
abbrev pub refused_privileges : ℕ
refused_privileges = 0x410240

-- the privileges of an entry that may be made: Security Domain for what comes from the factory's file alone, those of domains for
-- domains alone, one kind of management at most, and none that is refused
pub record MayBeMade (entry : Entry) : Type 0 where
  pub kind : is_domain entry ≡ same_aid entry.file FACTORY_FILE
  pub domain_privileges : has_domain_privilege entry ≡ true → is_domain entry ≡ true
  pub one_management : (has authorized_management entry.privileges && has delegated_management entry.privileges) ≡ false
  pub none_refused : bit_and (bits_of entry.privileges) refused_privileges ≡ 0

-- the privileges that only a holder grants: Authorized Management, Token Verification, Receipt Generation, Global Delete, Global Lock,
-- Global Registry, Card Lock and Card Terminate
abbrev pub guarded_privileges : List ℕ
guarded_privileges =
    authorized_management ∷ token_verification ∷ receipt_generation ∷ 0x001000 ∷ 0x000800 ∷ 0x000400 ∷ 0x100000 ∷ 0x080000 ∷ []

-- something has the AID, or will have it once the load session ends
abbrev pub IsTakenAid : Admitted → List ℕ → Type 0
IsTakenAid admitted aid =
    IsSome (entry_named admitted.at.registry aid) ⊎ IsSome (file_named admitted.at.registry aid)
    ⊎ MatchOption admitted.at.volatile.load ⊥ (λ load. load.aid ≡ aid)

abbrev pub install_refusal : RuleII → Refusal
install_refusal II1 = refusal (codes "II1") 0x6982
install_refusal II2 = refusal (codes "II2") 0x6A88
install_refusal II3 = refusal (codes "II3") 0x6982
install_refusal II4 = refusal (codes "II4") 0x6A80
install_refusal II5 = refusal (codes "II5") 0x6A80
install_refusal II6 = refusal (codes "II6") 0x6982
install_refusal II7 = refusal (codes "II7") 0x6A84

abbrev pub InstallingFails : Admitted → InstallAsked → RuleII → Type 0
-- the domain does not manage content
InstallingFails admitted asked II1 = MayManage admitted → ⊥
-- there is no such Executable Load File, or the factory's has no such Module
InstallingFails admitted asked II2 =
    (file_named admitted.at.registry asked.given.first ≡ None) ⊎ ((asked.given.first ≡ FACTORY_FILE) × (asked.given.second ≢ FACTORY_MODULE))
-- it is not the domain's to install from
InstallingFails admitted asked II3 =
    (asked.given.first ≢ FACTORY_FILE)
    × MatchOption (file_named admitted.at.registry asked.given.first) ⊥ (λ file. IsFileInCharge admitted.at.registry (acting admitted) file → ⊥)
-- the AID is taken
InstallingFails admitted asked II4 = IsTakenAid admitted asked.given.third
-- the privileges do not go together
InstallingFails admitted asked II5 = MayBeMade (entry_made admitted asked) → ⊥
-- the domain grants a privilege that it does not hold itself
InstallingFails admitted asked II6 =
    (privilege : ℕ) × Contains guarded_privileges privilege × (has privilege asked.privileges ≡ true) × (Holds admitted privilege → ⊥)
-- the card has no room for another entry
InstallingFails admitted asked II7 = ENTRIES ≤ length admitted.at.registry.entries

-- The entry is there, and a receipt names the Executable Load File and the application.
abbrev pub managed_install : ManagedForm
managed_install = record {
  judged = record (content_form 0xE6 InstallParameters (λ p1 p2. AsksToInstall)) {
    own = ordered_rules II (II1 ∷ II2 ∷ II3 ∷ II4 ∷ II5 ∷ II6 ∷ II7 ∷ []) InstallingFails;
    delegation = to_holders (λ asked. approval_in asked.given) (λ admitted asked. asked.given.first ∷ asked.given.third ∷ []);
  };
  becomes = λ admitted asked. IsEntryAdded (entry_made admitted asked) admitted.at.registry;
  reply = λ asked. no_confirmation;
}
