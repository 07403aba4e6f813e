-- INSTALL [for make selectable] spares the trees in which the acting domain is not: the application is below it.
use Rattle.std.proofs.Common.{◌≡◌, inr, ℕ, false, List, refl, sym, subst, arith}
use Rattle.card_types.proofs.NamedThings.{aid_differs}
use Rattle.policy_machine.specs.Prelude.{IsAboveIn, IsAtOrAbove, Registry, acting, managed_selectable, same_aid}
use Rattle.card_types.specs.declared.life.Life.TheVariants.{Selectable}
use Rattle.policy_machine.specs.declared.make_selectable.RuleMS.TheVariants.{MS3}
use Rattle.policy_machine.proofs.SparingForms.{IsManagedSparing}
use Rattle.policy_machine.proofs.TreeKept.{SparesTree, out_of_reach}
use Rattle.policy_machine.proofs.TreesMarked.{marked_spared}

pub selectable_sparing : IsManagedSparing managed_selectable
selectable_sparing admitted given changed passed judges becomes domain apart =
    subst (λ (r : Registry). SparesTree admitted r domain) (sym becomes)
    (marked_spared admitted domain apart (λ other. same_aid other given.third) (λ entry. record entry { life = record { life = Selectable; locked = false } }) (λ entry. (refl, refl)) outside)
  where
    outside : (x : List ℕ) → IsAtOrAbove admitted.at.registry domain x → same_aid x given.third ≡ false
    outside x at = aid_differs x given.third (λ same. passed.own MS3 (2, omega arith, refl) (λ above.
        out_of_reach admitted domain apart x at (inr (subst (IsAboveIn admitted.at.registry (acting admitted)) (sym same) above))))
