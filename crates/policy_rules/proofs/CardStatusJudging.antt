-- The rules of SET STATUS of the card after its form, by the step that is asked for.
use Rattle.std.proofs.Common.{◌≡◌, ◌≢◌, ◌↔◌, ◌⊎◌, ℕ, true, List, Option, None, Some, refl, sym, subst, ◌∙◌, inl, inr, arith}
use Rattle.std.specs.Prelude.{IsTrue}
use Rattle.policy_rules.specs.Prelude.{ActsIn, Admitted, Apdu, FailsFirst, Holds, IsCardStatusOf, IsCardStep, IsLocking, IsPreparing, IsStepBy, IsTerminating, ManagementFails, MayStep, OwnFirst, SettingCardFails, acting, card_life_code, card_lock, card_terminate, command_form, managed_card_status}
use Rattle.card_types.specs.declared.card_life.CardLife.{CardLife}
use Rattle.card_types.specs.declared.card_life.CardLife.TheVariants.{Initialized, Secured, Locked, Terminated}
use Rattle.card_types.specs.declared.factory.TheConstants.{ISSUER}
use Rattle.card_types.specs.declared.tables.Tables.{Tables}
use Rattle.policy_machine.specs.declared.card_status.RuleSC.TheVariants.{SC1, SC2}
use Rattle.policy_machine.specs.declared.management.RuleM.TheVariants.{M2, M3}
use Rattle.policy_machine.specs.declared.rule.Rule.{Rule}
use Rattle.policy_machine.specs.declared.rule.Rule.TheVariants.{SC}
use Rattle.policy_machine.specs.declared.card_status.RuleSC.{RuleSC}
use Rattle.policy_machine.proofs.CardStatusLaws.{card_status_judgeable}
use Rattle.policy_machine.proofs.ManagedJudging.{own_refuses, two_pass, approval_decides}
use Rattle.policy_rules.specs.declared.card_status.CardStep.{CardStep}
use Rattle.policy_rules.specs.declared.card_status.CardStep.TheVariants.{Prepare, Lock, Terminate}

-- it is the card's own state that is set
pub of_card : (code : ℕ) (command : Apdu) → IsCardStatusOf code command → IsTrue true ↔ (command.p1 ≡ 0x80)
of_card code command is = ((λ _. is.parameters), (λ _. refl))

-- a step has the code of a state
coded : (life : CardLife) (code : ℕ) → IsCardStep life code → (next : CardLife) × (card_life_code next ≡ code)
coded life code (inl (inl step)) = (Initialized, sym step.1)
coded life code (inl (inr step)) = (Secured, sym step.1)
coded life code (inr (inl (inl step))) = (Locked, sym step.1)
coded life code (inr (inl (inr step))) = (Secured, sym step.1)
coded life code (inr (inr step)) = (Terminated, sym step)

a_step : (kind : CardStep) (life : CardLife) (code : ℕ) → IsStepBy kind life code → IsCardStep life code
a_step Prepare life code step = inl step
a_step Lock life code step = inr (inl step)
a_step Terminate life code step = inr (inr step)

-- no step is of two kinds
prepares_not_locks : (life : CardLife) (code : ℕ) → IsPreparing life code → IsLocking life code → ⊥
prepares_not_locks life code (inl one) (inl other) = (let clash = sym one.0 ∙ other.0 in cc)
prepares_not_locks life code (inl one) (inr other) = (let clash = sym one.0 ∙ other.0 in cc)
prepares_not_locks life code (inr one) (inl other) = (let clash = sym one.0 ∙ other.0 in cc)
prepares_not_locks life code (inr one) (inr other) = (let clash = sym one.0 ∙ other.0 in cc)

prepares_not_terminates : (life : CardLife) (code : ℕ) → IsPreparing life code → IsTerminating code → ⊥
prepares_not_terminates life code (inl one) other = omega (arith, one.1, other)
prepares_not_terminates life code (inr one) other = omega (arith, one.1, other)

locks_not_terminates : (life : CardLife) (code : ℕ) → IsLocking life code → IsTerminating code → ⊥
locks_not_terminates life code (inl one) other = omega (arith, one.1, other)
locks_not_terminates life code (inr one) other = omega (arith, one.1, other)

-- the step is not the domain's to take
abbrev IsBarred : Admitted → CardLife → ℕ → Type 0
IsBarred admitted life code =
    (IsPreparing life code × (acting admitted ≢ ISSUER)) ⊎ (IsLocking life code × (Holds admitted card_lock → ⊥))
    ⊎ (IsTerminating code × (Holds admitted card_terminate → ⊥))

barred : (admitted : Admitted) (kind : CardStep) (life : CardLife) (code : ℕ) → IsStepBy kind life code → (MayStep kind admitted → ⊥) → IsBarred admitted life code
barred admitted Prepare life code step may_not = inl (step, may_not)
barred admitted Lock life code step may_not = inr (inl (step, may_not))
barred admitted Terminate life code step may_not = inr (inr (step, may_not))

free : (admitted : Admitted) (kind : CardStep) (life : CardLife) (code : ℕ) → IsStepBy kind life code → MayStep kind admitted → IsBarred admitted life code → ⊥
free admitted Prepare life code step may (inl prepares) = prepares.1 may
free admitted Prepare life code step may (inr (inl locks)) = prepares_not_locks life code step locks.0
free admitted Prepare life code step may (inr (inr terminates)) = prepares_not_terminates life code step terminates.0
free admitted Lock life code step may (inl prepares) = prepares_not_locks life code prepares.0 step
free admitted Lock life code step may (inr (inl locks)) = locks.1 may
free admitted Lock life code step may (inr (inr terminates)) = locks_not_terminates life code step terminates.0
free admitted Terminate life code step may (inl prepares) = prepares_not_terminates life code prepares.0 step
free admitted Terminate life code step may (inr (inl locks)) = locks_not_terminates life code locks.0 step
free admitted Terminate life code step may (inr (inr terminates)) = terminates.1 may

module _ (page : ℕ → List ℕ) (tables : Tables) (domain : ℕ) (admitted : Admitted) (acts : ActsIn page tables domain admitted) (code : ℕ)
    (is : IsCardStatusOf code admitted.command) (managed : (ManagementFails admitted M2 → ⊥) × (ManagementFails admitted M3 → ⊥)) where
  abbrev First : Option Rule → Type 0
  First = FailsFirst (command_form managed_card_status) admitted

  -- what is so of the tables and the code is so of the registry and P2
  told : (P : CardLife → ℕ → Type 0) → P tables.life code → P admitted.at.registry.life admitted.command.p2
  told P so = subst (P admitted.at.registry.life) is.code_is (subst (λ (life : CardLife). P life code) acts.says.life so)

  refuses : (rule : RuleSC) → OwnFirst managed_card_status.judged admitted tt (Some rule) → First (Some (SC rule))
  refuses = own_refuses managed_card_status.judged card_status_judgeable admitted tt tt (two_pass managed)

  stepless : (IsCardStep tables.life code → ⊥) → First (Some (SC SC1))
  stepless none = refuses SC1 (inl (told (λ life p2. IsCardStep life p2 → ⊥) none, refl))

  pub codeless_first : ((life : CardLife) → card_life_code life ≡ code → ⊥) → First (Some (SC SC1))
  codeless_first none = stepless (λ step. (let next = coded tables.life code step in none next.0 next.1))

  module _ (life : CardLife) (coded_so : card_life_code life ≡ code) where
    pub stepless_first : (IsCardStep tables.life (card_life_code life) → ⊥) → First (Some (SC SC1))
    stepless_first none = stepless (subst (λ (c : ℕ). IsCardStep tables.life c → ⊥) coded_so none)

    module _ (kind : CardStep) (step : IsStepBy kind tables.life (card_life_code life)) where
      here : IsStepBy kind admitted.at.registry.life admitted.command.p2
      here = told (IsStepBy kind) (subst (IsStepBy kind tables.life) coded_so step)

      steps : SettingCardFails admitted SC1 → ⊥
      steps none = none (a_step kind _ _ here)

      pub barred_first : (MayStep kind admitted → ⊥) → First (Some (SC SC2))
      barred_first may_not = refuses SC2 (inr (steps, inl (barred admitted kind _ _ here may_not, refl)))

      pub step_passes : MayStep kind admitted → First None
      step_passes may =
          approval_decides managed_card_status.judged card_status_judgeable admitted tt tt (two_pass managed) None
          (inr (steps, inr (free admitted kind _ _ here may, refl))) refl
