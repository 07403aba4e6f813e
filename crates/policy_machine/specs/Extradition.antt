-- INSTALL [for extradition] (GlobalPlatform Card Specification 2.3.1, 9.4.1 and 11.5): an application, a security domain or an
-- Executable Load File gets another security domain. A domain that is moved to itself is a root from then on: that, and the order
-- of the rules, are this profile's own.
use Rattle.std.specs.Prelude.{◌≡◌, ◌≢◌, ◌⊎◌, ℕ, List, [], ◌∷◌, Option, MatchOption, None, Some, codes, false}
use Rattle.card_types.specs.Aid.{IsAid}
use Rattle.card_types.specs.Privileges.{authorized_management, delegated_management}
use Rattle.card_types.specs.Registry.{Key, LoadFile, Registry, domain_of, entry_named, file_named}
use Rattle.card_types.specs.RegistryChange.{with_thing_in_domain}
use Rattle.card_types.specs.Well.{IsDomainNamed}
use Rattle.card_types.specs.declared.factory.TheConstants.{FACTORY_FILE, ISSUER}
use Rattle.card_types.specs.declared.life.Life.TheVariants.{Personalized}
use Rattle.card_types.specs.declared.life.LifeMark.{LifeMark}
use Rattle.domain_tree.specs.Above.{IsAboveIn}
use Rattle.policy_machine.specs.Admission.{Admitted}
use Rattle.policy_machine.specs.Charge.{IsAtOrAbove, IsInCharge}
use Rattle.policy_machine.specs.Delegation.{Holds, IsVerifier, MayManage, NoVerifier, no_confirmation}
use Rattle.policy_machine.specs.InstallFields.{InstallData, IsInstallData, approval_in}
use Rattle.policy_machine.specs.Management.{acting}
use Rattle.policy_machine.specs.Refusal.{Refusal, refusal}
use Rattle.policy_machine.specs.declared.extradition.RuleEX.{RuleEX}
use Rattle.policy_machine.specs.declared.extradition.RuleEX.TheVariants.{EX1, EX2, EX3, EX4, EX5, EX6, EX7}
use Rattle.policy_machine.specs.declared.rule.Rule.TheVariants.{EX}
use Rattle.policy_machine.specs.ManagedForm.{ManagedForm, content_form, ordered_rules, to_holders}

abbrev pub ExtraditionParameters : ℕ → ℕ → Type 0
ExtraditionParameters p1 p2 = (p1 ≡ 0x10) × (p2 ≡ 0x00)

-- the AID of the new security domain, that of the thing, parameters that are not read, and a token
pub record AsksToExtradite (body : List ℕ) (given : InstallData) : Type 0 where
  pub fields : IsInstallData given body
  pub domain : IsAid given.first
  pub no_module : given.second ≡ []
  pub aid : IsAid given.third
  pub no_privileges : given.privileges ≡ []

-- personalized, and not locked
abbrev pub is_personalized : LifeMark
is_personalized = record { life = Personalized; locked = false }

-- the domain of the Executable Load File, or else of the entry, with this AID
abbrev pub file_domain : Option LoadFile → List ℕ → List ℕ
file_domain None other = other
file_domain (Some file) other = file.domain

abbrev pub entry_domain : Option (List ℕ) → List ℕ
entry_domain None = []
entry_domain (Some domain) = domain

abbrev pub domain_of_thing : Registry → List ℕ → List ℕ
domain_of_thing registry aid = file_domain (file_named registry aid) (entry_domain (domain_of registry aid))

abbrev pub extradition_refusal : RuleEX → Refusal
extradition_refusal EX1 = refusal (codes "EX1") 0x6982
extradition_refusal EX2 = refusal (codes "EX2") 0x6A88
extradition_refusal EX3 = refusal (codes "EX3") 0x6985
extradition_refusal EX4 = refusal (codes "EX4") 0x6982
extradition_refusal EX5 = refusal (codes "EX5") 0x6985
extradition_refusal EX6 = refusal (codes "EX6") 0x6985
extradition_refusal EX7 = refusal (codes "EX7") 0x6982

-- who manages in its own right moves a thing to itself, to a domain below it, or to the thing itself
abbrev pub IsOutOfReach : Admitted → InstallData → Type 0
IsOutOfReach admitted given = (given.first ≢ given.third) × (IsAtOrAbove admitted.at.registry (acting admitted) given.first → ⊥)

-- who is delegated to moves it to the verifier or to a domain below that, and makes no root
abbrev pub IsUnapprovable : Admitted → InstallData → Type 0
IsUnapprovable admitted given =
    (given.first ≡ given.third) ⊎ NoVerifier admitted.at.registry (acting admitted)
    ⊎ ((verifier : List ℕ) × (key : Key) × IsVerifier admitted.at.registry (acting admitted) verifier key
    × (IsAtOrAbove admitted.at.registry verifier given.first → ⊥))

abbrev pub ExtraditingFails : Admitted → InstallData → RuleEX → Type 0
-- the domain does not manage content
ExtraditingFails admitted given EX1 = MayManage admitted → ⊥
-- nothing has the AID, or the new domain is none
ExtraditingFails admitted given EX2 =
    ((entry_named admitted.at.registry given.third ≡ None) × (file_named admitted.at.registry given.third ≡ None))
    ⊎ (IsDomainNamed admitted.at.registry given.first → ⊥)
-- it is the Issuer Security Domain or the factory's Executable Load File
ExtraditingFails admitted given EX3 = (given.third ≡ ISSUER) ⊎ (given.third ≡ FACTORY_FILE)
-- it is not the domain's to move
ExtraditingFails admitted given EX4 = IsInCharge admitted.at.registry (acting admitted) given.third → ⊥
-- the new domain is not personalized, or locked
ExtraditingFails admitted given EX5 = MatchOption (entry_named admitted.at.registry given.first) ⊥ (λ domain. domain.life ≢ is_personalized)
-- the new domain is below the thing
ExtraditingFails admitted given EX6 = IsAboveIn admitted.at.registry given.third given.first
-- it may not be moved there
ExtraditingFails admitted given EX7 =
    (Holds admitted authorized_management × IsOutOfReach admitted given) ⊎ (Holds admitted delegated_management × IsUnapprovable admitted given)

-- The thing is in its new domain, and a receipt names the old domain, the thing and the new domain.
abbrev pub managed_extradition : ManagedForm
managed_extradition = record {
  judged = record (content_form 0xE6 ExtraditionParameters (λ p1 p2. AsksToExtradite)) {
    own = ordered_rules EX (EX1 ∷ EX2 ∷ EX3 ∷ EX4 ∷ EX5 ∷ EX6 ∷ EX7 ∷ []) ExtraditingFails;
    delegation = to_holders approval_in (λ admitted given. domain_of_thing admitted.at.registry given.third ∷ given.third ∷ given.first ∷ []);
  };
  becomes = λ admitted given changed. changed ≡ with_thing_in_domain admitted.at.registry given.third given.first;
  reply = λ given. no_confirmation;
}
