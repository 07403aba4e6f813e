-- INSTALL [for load] (GlobalPlatform Card Specification 2.3.1, 9.3.1 and 11.5): a load session begins, in which an Executable Load File
-- comes by LOAD. That the session is the only one, and the order of the rules, are this profile's own.
use Rattle.std.specs.Prelude.{◌≡◌, ◌≢◌, ◌⊎◌, ℕ, ◌≤◌, List, [], ◌∷◌, ◌++◌, None, codes, IsSome, length, map}
use Rattle.std.specs.List.{flat_map}
use Rattle.tokens_receipts.specs.Receipt.{with_length}
use Rattle.card_types.specs.Aid.{IsAid}
use Rattle.card_types.specs.Privileges.{delegated_management}
use Rattle.card_types.specs.Registry.{entry_named, file_named}
use Rattle.card_types.specs.Well.{IsDomainNamed}
use Rattle.card_types.specs.declared.limits.TheConstants.{FILES}
use Rattle.policy_machine.specs.Admission.{Admitted}
use Rattle.policy_machine.specs.Charge.{IsAtOrAbove}
use Rattle.policy_machine.specs.CommandForm.{CommandForm}
use Rattle.policy_machine.specs.Delegation.{Approval, Holds, MayManage, token_rules}
use Rattle.policy_machine.specs.InstallFields.{AreLengthFields}
use Rattle.policy_machine.specs.Management.{acting}
use Rattle.policy_machine.specs.Refusal.{Refusal, refusal}
use Rattle.policy_machine.specs.Sound.{IsHashLength}
use Rattle.policy_machine.specs.State.{Effect, LoadSession, with_load}
use Rattle.policy_machine.specs.declared.install_load.RuleIL.{RuleIL}
use Rattle.policy_machine.specs.declared.install_load.RuleIL.TheVariants.{IL1, IL2, IL3, IL4, IL5, IL6, IL7}
use Rattle.policy_machine.specs.declared.rule.Rule.TheVariants.{IL, TK}
use Rattle.policy_machine.specs.ManagedForm.{JudgedForm, content_form, judged_form, ordered_rules, to_holders}

abbrev pub InstallLoadParameters : ℕ → ℕ → Type 0
InstallLoadParameters p1 p2 = (p1 ≡ 0x02) × (p2 ≡ 0x00)

-- the five fields: the AIDs of the Executable Load File and of its security domain, the hash of the file, load parameters, and a token
pub record LoadData : Type 0 where
  pub file : List ℕ
  pub domain : List ℕ
  pub hash : List ℕ
  pub parameters : List ℕ
  pub token : List ℕ

-- those before the token, which the token signs
abbrev pub signed_load_fields : LoadData → List (List ℕ)
signed_load_fields given = given.file ∷ given.domain ∷ given.hash ∷ given.parameters ∷ []

-- the data field is these five
abbrev pub IsLoadData : LoadData → List ℕ → Type 0
IsLoadData given = AreLengthFields (signed_load_fields given ++ given.token ∷ [])

-- the approval that they bring
abbrev pub load_approval : LoadData → Approval
load_approval given = record { before = flat_map with_length (signed_load_fields given); token = given.token }

-- no security domain need be named, and the load parameters are not read
pub record AsksToLoad (body : List ℕ) (given : LoadData) : Type 0 where
  pub fields : IsLoadData given body
  pub file : IsAid given.file
  pub domain : (given.domain ≡ []) ⊎ IsAid given.domain

-- the domain named, or where none is named the one that the command acts for
abbrev pub named_or : List ℕ → List ℕ → List ℕ
named_or [] other = other
named_or (byte ∷ bytes) other = byte ∷ bytes

abbrev pub file_domain_for : Admitted → LoadData → List ℕ
file_domain_for admitted given = named_or given.domain (acting admitted)

abbrev pub install_load_refusal : RuleIL → Refusal
install_load_refusal IL1 = refusal (codes "IL1") 0x6982
install_load_refusal IL2 = refusal (codes "IL2") 0x6985
install_load_refusal IL3 = refusal (codes "IL3") 0x6A80
install_load_refusal IL4 = refusal (codes "IL4") 0x6A88
install_load_refusal IL5 = refusal (codes "IL5") 0x6982
install_load_refusal IL6 = refusal (codes "IL6") 0x6A80
install_load_refusal IL7 = refusal (codes "IL7") 0x6A84

abbrev pub InstallingLoadFails : Admitted → LoadData → RuleIL → Type 0
-- the domain does not manage content
InstallingLoadFails admitted given IL1 = MayManage admitted → ⊥
-- there is a load session, which is that of another channel, since that of its own has ended
InstallingLoadFails admitted given IL2 = IsSome admitted.at.volatile.load
-- something has the AID of the Executable Load File
InstallingLoadFails admitted given IL3 = IsSome (entry_named admitted.at.registry given.file) ⊎ IsSome (file_named admitted.at.registry given.file)
-- what is named as its domain is none
InstallingLoadFails admitted given IL4 = (given.domain ≢ []) × (IsDomainNamed admitted.at.registry given.domain → ⊥)
-- the domain may not load into that one
InstallingLoadFails admitted given IL5 = IsAtOrAbove admitted.at.registry (acting admitted) (file_domain_for admitted given) → ⊥
-- the hash is neither SHA-1 nor SHA-256, or there is none, and the command is delegated
InstallingLoadFails admitted given IL6 =
    (IsHashLength (length given.hash) → ⊥) ⊎ ((given.hash ≡ []) × Holds admitted delegated_management)
-- the card has no room for another Executable Load File
InstallingLoadFails admitted given IL7 = FILES ≤ length admitted.at.registry.files

-- nothing is receipted before the last block
abbrev pub judged_install_load : JudgedForm
judged_install_load = record (content_form 0xE6 InstallLoadParameters (λ p1 p2. AsksToLoad)) {
  own = ordered_rules IL (IL1 ∷ IL2 ∷ IL3 ∷ IL4 ∷ IL5 ∷ IL6 ∷ IL7 ∷ []) InstallingLoadFails;
  delegation = record (to_holders load_approval (λ admitted given. [])) { rules = map TK token_rules };
}

-- the load session on the command's channel, before its first block
abbrev pub load_begun : Admitted → LoadData → LoadSession
load_begun admitted given = record {
  channel = admitted.channel;
  aid = given.file;
  domain = file_domain_for admitted given;
  hash = given.hash;
  announced = None;
  bytes = [];
  blocks = 0;
}

-- The load session begins, and the registry is as it was.
pub record InstallLoadEffect (admitted : Admitted) (done : Effect) : Type 0 where
  pub given : LoadData
  pub asks : AsksToLoad admitted.command.body given
  pub registry : done.state.registry ≡ admitted.at.registry
  pub volatile : done.state.volatile ≡ with_load admitted.at.volatile (load_begun admitted given)
  pub body : done.body ≡ 0x00 ∷ []
  pub status : done.status ≡ 0x9000

-- INSTALL [for load]
abbrev pub install_load : CommandForm
install_load = judged_form judged_install_load (λ admitted aids. ⊥) InstallLoadEffect
