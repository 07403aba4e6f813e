-- DELETE of an object spares the trees in which the acting domain is not: without Global Delete all that goes is in its charge.
use Rattle.std.proofs.Common.{◌≡◌, ◌⊎◌, inl, inr, ℕ, List, refl, sym, subst, arith}
use Rattle.policy_machine.specs.Prelude.{Admitted, ComesFrom, DeleteParameters, DeletingFails, DeletionAsked, IsInCharge, IsToGo, Registry, acting, managed_delete_object}
use Rattle.policy_machine.specs.declared.delete_object.RuleDO.TheVariants.{DO3, DO4}
use Rattle.policy_machine.proofs.SparingForms.{IsManagedSparing}
use Rattle.policy_machine.proofs.TreeKept.{SparesTree}
use Rattle.policy_machine.proofs.TreesRemoved.{removed_spared}

-- what comes from an Executable Load File that is deleted is to go with it
pub related_go : (admitted : Admitted) (asked : DeletionAsked) → DeleteParameters admitted.command.p1 admitted.command.p2 → (DeletingFails admitted asked DO4 → ⊥)
    → (x : List ℕ) → ComesFrom admitted.at.registry asked.aid x → IsToGo admitted asked.aid x
related_go admitted asked parameters passes x comes = by parameters.1
  where
    by : (admitted.command.p2 ≡ 0x00) ⊎ (admitted.command.p2 ≡ 0x80) → IsToGo admitted asked.aid x
    by (inl alone) = absurd (passes (inr (alone, (x, comes))))
    by (inr related) = inr (related, comes)

pub deletion_sparing : IsManagedSparing managed_delete_object
deletion_sparing admitted asked changed passed judges becomes domain apart =
    subst (λ (r : Registry). SparesTree admitted r domain) (sym becomes)
    (removed_spared admitted domain apart asked.aid charged (related_go admitted asked passed.takes (passed.own DO4 (3, omega arith, refl))))
  where
    charged : (x : List ℕ) → IsToGo admitted asked.aid x → (IsInCharge admitted.at.registry (acting admitted) x → ⊥) → ⊥
    charged x to_go away = passed.own DO3 (2, omega arith, refl) ((λ global. apart.powerless (inr (inr (inr (inl global))))), inr (x, to_go, away))
