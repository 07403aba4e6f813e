-- INSTALL [for make selectable] (GlobalPlatform Card Specification 2.3.1, 9.3.3 and 11.5): an application that is installed can be
-- selected from then on.
use Rattle.std.specs.Prelude.{◌≡◌, ◌≢◌, ◌⊎◌, ℕ, List, [], ◌∷◌, MatchOption, None, codes, false}
use Rattle.card_types.specs.Aid.{IsAid}
use Rattle.card_types.specs.Privileges.{ArePrivilegeBytes}
use Rattle.card_types.specs.Registry.{entry_named}
use Rattle.card_types.specs.RegistryChange.{with_life}
use Rattle.card_types.specs.declared.life.Life.TheVariants.{Installed, Selectable}
use Rattle.card_types.specs.declared.life.LifeMark.{LifeMark}
use Rattle.card_types.specs.declared.privileges.Privileges.{Privileges}
use Rattle.domain_tree.specs.Above.{IsAboveIn}
use Rattle.policy_machine.specs.Admission.{Admitted}
use Rattle.policy_machine.specs.Delegation.{MayManage, no_confirmation}
use Rattle.policy_machine.specs.InstallFields.{InstallData, IsInstallData, approval_in}
use Rattle.policy_machine.specs.Management.{acting}
use Rattle.policy_machine.specs.Refusal.{Refusal, refusal}
use Rattle.policy_machine.specs.declared.make_selectable.RuleMS.{RuleMS}
use Rattle.policy_machine.specs.declared.make_selectable.RuleMS.TheVariants.{MS1, MS2, MS3, MS4, MS5}
use Rattle.policy_machine.specs.declared.rule.Rule.TheVariants.{MS}
use Rattle.policy_machine.specs.ManagedForm.{ManagedForm, content_form, ordered_rules, to_holders}

abbrev pub MakeSelectableParameters : ℕ → ℕ → Type 0
MakeSelectableParameters p1 p2 = (p1 ≡ 0x08) × (p2 ≡ 0x00)

-- the application's AID, its privileges or none, parameters that are not read, and a token
pub record AsksToMakeSelectable (body : List ℕ) (given : InstallData) : Type 0 where
  pub fields : IsInstallData given body
  pub no_file : given.first ≡ []
  pub no_module : given.second ≡ []
  pub aid : IsAid given.third
  pub privileges : (given.privileges ≡ []) ⊎ ((privileges : Privileges) × ArePrivilegeBytes privileges given.privileges)

-- installed, and not locked
abbrev pub is_installed : LifeMark
is_installed = record { life = Installed; locked = false }

abbrev pub selectable_refusal : RuleMS → Refusal
selectable_refusal MS1 = refusal (codes "MS1") 0x6982
selectable_refusal MS2 = refusal (codes "MS2") 0x6A88
selectable_refusal MS3 = refusal (codes "MS3") 0x6982
selectable_refusal MS4 = refusal (codes "MS4") 0x6985
selectable_refusal MS5 = refusal (codes "MS5") 0x6A80

abbrev pub MakingSelectableFails : Admitted → InstallData → RuleMS → Type 0
-- the domain does not manage content
MakingSelectableFails admitted given MS1 = MayManage admitted → ⊥
-- no entry has the AID
MakingSelectableFails admitted given MS2 = entry_named admitted.at.registry given.third ≡ None
-- it is not below the domain
MakingSelectableFails admitted given MS3 = IsAboveIn admitted.at.registry (acting admitted) given.third → ⊥
-- it is not just installed
MakingSelectableFails admitted given MS4 = MatchOption (entry_named admitted.at.registry given.third) ⊥ (λ entry. entry.life ≢ is_installed)
-- other privileges are given than it has
MakingSelectableFails admitted given MS5 =
    (privileges : Privileges) × ArePrivilegeBytes privileges given.privileges
    × MatchOption (entry_named admitted.at.registry given.third) ⊥ (λ entry. entry.privileges ≢ privileges)

-- The application is selectable, and a receipt names it.
abbrev pub managed_selectable : ManagedForm
managed_selectable = record {
  judged = record (content_form 0xE6 MakeSelectableParameters (λ p1 p2. AsksToMakeSelectable)) {
    own = ordered_rules MS (MS1 ∷ MS2 ∷ MS3 ∷ MS4 ∷ MS5 ∷ []) MakingSelectableFails;
    delegation = to_holders approval_in (λ admitted given. given.third ∷ []);
  };
  becomes = λ admitted given changed. changed ≡ with_life admitted.at.registry given.third (record { life = Selectable; locked = false });
  reply = λ given. no_confirmation;
}
