-- The rules of a DELETE of a key after its form, by its request.
use Rattle.std.proofs.Common.{◌≡◌, ℕ, Bool, true, List, Option, ap, sym, ◌∙◌, inl, inr, None, Some, refl}
use Rattle.card_types.specs.declared.tables.KeyRec.{KeyRec}
use Rattle.card_types.specs.declared.tables.Tables.{Tables}
use Rattle.key_rules.specs.PutFails as slots
use Rattle.policy_rules.specs.Prelude.{ActsIn, Admitted, DeletingKeyFails, IsRequestOf, Judges, KeyChosen, ManagementFails, NamesPart, OwnFirst, acting, has_key_version, managed_delete_key}
use Rattle.policy_machine.specs.declared.delete_key.RuleDK.TheVariants.{DK1}
use Rattle.policy_machine.specs.declared.rule.Rule.TheVariants.{DK}
use Rattle.policy_machine.specs.declared.management.RuleM.TheVariants.{M1, M2}
use Rattle.policy_machine.specs.declared.delete_key.RuleDK.{RuleDK}
use Rattle.policy_machine.proofs.DeleteKeyLaws.{delete_key_judgeable, deletion_judged}
use Rattle.policy_machine.proofs.ManagedJudging.{own_refuses, approval_decides, two_pass}
use Rattle.policy_rules.specs.declared.request.Request.TheVariants.{DeleteKey}
use Rattle.policy_slots.proofs.KeysByName.{has_version_by_name}

-- the domain that a command acts for has keys by its slot exactly where it has them by its name
pub acting_has_version : (page : ℕ → List ℕ) (tables : Tables) (domain : ℕ) (admitted : Admitted) → ActsIn page tables domain admitted
    → (version : ℕ) (keys : List (Option KeyRec)) (has : Bool) → keys ≡ tables.keys.items → has ≡ slots.has_version domain version keys
    → has_key_version admitted.at.registry (acting admitted) version ≡ has
acting_has_version page tables domain admitted acts version keys has are is =
    ap (λ (aid : List ℕ). has_key_version admitted.at.registry aid version) acts.on
    ∙ sym (has_version_by_name page tables admitted.at.registry acts.says acts.well domain acts.entry acts.at version)
    ∙ ap (slots.has_version domain version) (sym are) ∙ sym is

-- what its request asks for
abbrev chosen : ℕ → Option ℕ → KeyChosen
chosen version identifier = record { version = version; identifier = identifier }

module _ (admitted : Admitted) (version : ℕ) (identifier : Option ℕ) (request : IsRequestOf (DeleteKey version identifier) admitted.command)
    (managed : (ManagementFails admitted M1 → ⊥) × (ManagementFails admitted M2 → ⊥)) where
  pub refused_first : (rule : RuleDK) → OwnFirst managed_delete_key.judged admitted (chosen version identifier) (Some rule) → Judges admitted (Some (DK rule))
  refused_first rule first =
      deletion_judged admitted (Some (DK rule)) request.form
      (own_refuses managed_delete_key.judged delete_key_judgeable admitted (chosen version identifier) request.means (two_pass managed) rule first)

  pub none_first : OwnFirst managed_delete_key.judged admitted (chosen version identifier) None → Judges admitted None
  none_first first =
      deletion_judged admitted None request.form
      (approval_decides managed_delete_key.judged delete_key_judgeable admitted (chosen version identifier) request.means (two_pass managed) None first refl)

-- a version that is there, and named whole
pub known_passes : (admitted : Admitted) (version : ℕ) (identifier : Option ℕ) → has_key_version admitted.at.registry (acting admitted) version ≡ true
    → (NamesPart version identifier → ⊥) → DeletingKeyFails admitted (chosen version identifier) DK1 → ⊥
known_passes admitted version identifier some whole (inl none) = (let clash = sym none ∙ some in cc)
known_passes admitted version identifier some whole (inr part) = whole part
