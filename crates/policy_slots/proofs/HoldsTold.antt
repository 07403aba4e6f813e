-- What the acting domain holds is what its slot holds.
use Rattle.std.proofs.Common.{◌≡◌, ◌↔◌, ℕ, Bool, true, false, List, ap, sym, ◌∙◌}
use Rattle.std.specs.Prelude.{IsTrue, not}
use Rattle.std.proofs.lemmas.Bool.{false_from_ne_true, not-true, not_from_false}
use Rattle.policy_slots.specs.Prelude.{ActsIn, Admitted, Holds, acting, bits_of, entry_has, entry_named, is_privileged, thing_in}
use Rattle.card_types.specs.declared.privileges.Privileges.{Privileges}
use Rattle.card_types.specs.declared.tables.Tables.{Tables}
use Rattle.policy_slots.proofs.NearestHolder.{privilege_named}

-- what a negated test tells
pub not_told : {P : Type 0} (is : Bool) → IsTrue is ↔ P → IsTrue (not is) ↔ (P → ⊥)
not_told is told = (
  λ negated so. (let clash = sym (told.1 so) ∙ not-true is negated in cc),
  λ other. not_from_false is (false_from_ne_true is (λ so. other (told.0 so))),
)

module _ (page : ℕ → List ℕ) (tables : Tables) (domain : ℕ) (admitted : Admitted) (acts : ActsIn page tables domain admitted) where
  -- what the acting domain holds, by its slot
  pub holds_named : (privilege : Privileges) → entry_has privilege (thing_in tables.entries.items domain) ≡ is_privileged (bits_of privilege) (entry_named admitted.at.registry (acting admitted))
  holds_named privilege =
      privilege_named page tables admitted.at.registry acts.says privilege domain acts.entry acts.at
      ∙ ap (λ (aid : List ℕ). is_privileged (bits_of privilege) (entry_named admitted.at.registry aid)) (sym acts.on)

  -- the domain holds what its slot holds
  pub holds_told : (privilege : Privileges) (has : Bool) → has ≡ entry_has privilege (thing_in tables.entries.items domain)
      → (has ≡ true → Holds admitted (bits_of privilege)) × (Holds admitted (bits_of privilege) → has ≡ true)
  holds_told privilege has is =
      let same = is ∙ holds_named privilege in
      ((λ there. sym same ∙ there), (λ holds. same ∙ holds))

  pub lacks_told : (privilege : Privileges) (has : Bool) → has ≡ entry_has privilege (thing_in tables.entries.items domain) → has ≡ false
      → Holds admitted (bits_of privilege) → ⊥
  lacks_told privilege has is lacks holds = (let clash = sym ((holds_told privilege has is).1 holds) ∙ lacks in cc)
