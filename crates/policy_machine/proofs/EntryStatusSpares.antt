-- SET STATUS of an entry spares the trees in which the acting domain is not: what it marks is below it.
use Rattle.std.proofs.Common.{◌≡◌, ◌⊎◌, inl, inr, ℕ, false, List, refl, sym, subst, ◌∙◌, arith}
use Rattle.std.proofs.lemmas.Bool.{false_from_ne_true}
use Rattle.card_types.proofs.NamedThings.{aid_differs}
use Rattle.policy_machine.specs.Prelude.{Admitted, IsAboveIn, IsAtOrAbove, OneIsSet, PersonalizesItself, Registry, SettingStatusFails, TreeIsSet, acting, managed_entry_status, same_aid}
use Rattle.domain_tree.proofs.Compared.{above_further}
use Rattle.policy_machine.specs.declared.entry_status.RuleSS.TheVariants.{SS3}
use Rattle.policy_machine.proofs.SparingForms.{IsManagedSparing}
use Rattle.policy_machine.proofs.TreeKept.{AreApart, SparesTree, out_of_reach}
use Rattle.policy_machine.proofs.TreesMarked.{marked_spared}

module _ (admitted : Admitted) (passes : SettingStatusFails admitted SS3 → ⊥) (domain : List ℕ) (apart : AreApart admitted domain) where
  abbrev before : Registry
  before = admitted.at.registry

  abbrev self : List ℕ
  self = acting admitted

  -- the entry that is named is below the acting domain, unless this personalizes itself
  reached : {P : Type 0} → (IsAboveIn before self admitted.command.body → ⊥) → (PersonalizesItself admitted → ⊥) → P
  reached away other = absurd (passes (away, (λ lock. apart.powerless (inr (inr (inr (inr lock))))), other))

  one_outside : (x : List ℕ) → IsAtOrAbove before domain x → same_aid x admitted.command.body ≡ false
  one_outside x at = aid_differs x admitted.command.body (λ same. reached
      (λ above. out_of_reach admitted domain apart x at (inr (subst (IsAboveIn before self) (sym same) above)))
      (λ itself. out_of_reach admitted domain apart x at (inl (same ∙ itself.itself))))

  tree_outside : (changed : Registry) (set : TreeIsSet admitted changed) (x : List ℕ) → IsAtOrAbove before domain x → set.these x ≡ false
  tree_outside changed set x at = false_from_ne_true (set.these x) (λ is. reached (λ above. within above ((set.tree x).0 is)) (λ itself. other_kind itself))
    where
      within : IsAboveIn before self admitted.command.body → (x ≡ admitted.command.body) ⊎ IsAboveIn before admitted.command.body x → ⊥
      within above (inl same) = out_of_reach admitted domain apart x at (inr (subst (IsAboveIn before self) (sym same) above))
      within above (inr below) = out_of_reach admitted domain apart x at (inr (above_further before apart.of self admitted.command.body x above below))

      other_kind : PersonalizesItself admitted → ⊥
      other_kind itself = (let one = itself.one in let all = set.all in omega arith)

  one_spared : (changed : Registry) → OneIsSet admitted changed → SparesTree admitted changed domain
  one_spared changed set =
      subst (λ (r : Registry). SparesTree admitted r domain) (sym set.registry)
      (marked_spared admitted domain apart (λ other. same_aid other admitted.command.body) (λ entry. record entry { life = set.life }) (λ entry. (refl, refl)) one_outside)

  tree_spared : (changed : Registry) → TreeIsSet admitted changed → SparesTree admitted changed domain
  tree_spared changed set =
      subst (λ (r : Registry). SparesTree admitted r domain) (sym set.registry)
      (marked_spared admitted domain apart set.these (λ entry. record entry { life = record { life = entry.life.life; locked = set.locked } }) (λ entry. (refl, refl)) (tree_outside changed set))

pub entry_status_sparing : IsManagedSparing managed_entry_status
entry_status_sparing admitted asked changed passed judges set domain apart = by set
  where
    by : OneIsSet admitted changed ⊎ TreeIsSet admitted changed → SparesTree admitted changed domain
    by (inl one) = one_spared admitted (passed.own SS3 (2, omega arith, refl)) domain apart changed one
    by (inr tree) = tree_spared admitted (passed.own SS3 (2, omega arith, refl)) domain apart changed tree
