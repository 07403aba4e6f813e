-- What leads to a root still does after one thing is put in, taken out or moved, over any steps.
use Rattle.std.proofs.Common.{◌≡◌, ◌≢◌, ◌⊎◌, inl, inr, List, [], ◌∷◌, Option, None, Some, ap, sym, subst, ◌∙◌, arith}
use Rattle.std.specs.Prelude.{Contains}
use Rattle.card_types.specs.Hierarchy.{IsLine}
use Rattle.card_types.proofs.Lines.{line_more}
use Rattle.card_types.proofs.Members.{contains_cases, contains_first, contains_later}

-- steps lead from this one to a root
abbrev pub Leads : {A : Type 0} → (A → Option A) → A → Type 0
Leads {A} step from = (line : List A) × IsLine step from line

module _ {A : Type 0} where
  -- each one of a line has a step
  pub member_steps : (step : A → Option A) (from : A) (line : List A) (x : A) → IsLine step from line → Contains line x → (next : A) × (step x ≡ Some next)
  member_steps step from [] x is there = absurd is
  member_steps step from (y ∷ []) x is there = elim (contains_cases y [] x there) [
    | inl same ↦ (from, ap step (sym same ∙ is.0) ∙ is.1)
    | inr later ↦ absurd (omega (arith, later.1))
  ]
  member_steps step from (y ∷ z ∷ line) x is there = elim (contains_cases y (z ∷ line) x there) [
    | inl same ↦ (z, ap step (sym same ∙ is.0) ∙ is.2)
    | inr later ↦ member_steps step z (z ∷ line) x is.3 later
  ]

  -- what holds of the first, and over each step, holds of each one of a line
  pub along_line : (step : A → Option A) (P : A → Type 0) → ((x next : A) → P x → step x ≡ Some next → P next) → (from : A) (line : List A) → P from
      → IsLine step from line → (x : A) → Contains line x → P x
  along_line step P on from [] first is x there = absurd is
  along_line step P on from (y ∷ []) first is x there = elim (contains_cases y [] x there) [
    | inl same ↦ subst P (sym is.0 ∙ same) first
    | inr later ↦ absurd (omega (arith, later.1))
  ]
  along_line step P on from (y ∷ z ∷ line) first is x there = elim (contains_cases y (z ∷ line) x there) [
    | inl same ↦ subst P (sym is.0 ∙ same) first
    | inr later ↦ along_line step P on z (z ∷ line) (on from z first is.2) is.3 x later
  ]

  module _ (step step' : A → Option A) where
    pub line_kept : (from : A) (line : List A) → IsLine step from line → ((x : A) → Contains line x → step' x ≡ step x) → IsLine step' from line
    line_kept from [] is alike = is
    line_kept from (x ∷ []) is alike = (is.0, alike from (subst (Contains (x ∷ [])) is.0 (contains_first x [])) ∙ is.1)
    line_kept from (x ∷ y ∷ line) is alike = (
      is.0,
      is.1,
      alike from (subst (Contains (x ∷ y ∷ line)) is.0 (contains_first x (y ∷ line))) ∙ is.2,
      line_kept y (y ∷ line) is.3 (λ z there. alike z (contains_later x (y ∷ line) z there)),
    )

    pub leads_kept : (from : A) (leads : Leads step from) → ((x : A) → Contains leads.0 x → step' x ≡ step x) → Leads step' from
    leads_kept from leads alike = (leads.0, line_kept from leads.0 leads.1 alike)

    -- one with no step before is on no line
    pub leads_put : (new : A) → step new ≡ None → ((x : A) → x ≢ new → step' x ≡ step x) → (from : A) → Leads step from → Leads step' from
    leads_put new none alike from leads = leads_kept from leads (λ x there.
        (let steps = member_steps step from leads.0 x leads.1 there in
        alike x (λ same. (let clash = ap step same in let is = steps.1 in cc))))

    -- below one that leads to a root
    pub leads_below : (from next : A) → step' from ≡ Some next → next ≢ from → Leads step' next → Leads step' from
    leads_below from next steps other leads = (from ∷ leads.0, line_more step' from next leads.0 steps other leads.1)

    -- one to which no other steps is on no line of another
    pub leads_removed : (gone : A) → ((x next : A) → x ≢ gone → step x ≡ Some next → next ≢ gone) → ((x : A) → x ≢ gone → step' x ≡ step x)
        → (from : A) → from ≢ gone → Leads step from → Leads step' from
    leads_removed gone none alike from other leads = leads_kept from leads (λ x there. alike x (along_line step (λ y. y ≢ gone) none from leads.0 other leads.1 x there))

    -- one that is moved, so that it leads to a root then
    module _ (thing : A) (alike : (x : A) → x ≢ thing → step' x ≡ step x) (decides : (x : A) → (x ≡ thing) ⊎ (x ≢ thing)) where
      pub leads_moved : Leads step' thing → (from : A) → Leads step from → Leads step' from
      leads_moved leads from it = along from it.0 it.1
        where
          along : (from : A) (line : List A) → IsLine step from line → Leads step' from
          along from [] is = absurd is
          along from (x ∷ []) is = elim (decides from) [
            | inl same ↦ subst (Leads step') (sym same) leads
            | inr differs ↦ (x ∷ [], (is.0, alike from differs ∙ is.1))
          ]
          along from (x ∷ y ∷ line) is = elim (decides from) [
            | inl same ↦ subst (Leads step') (sym same) leads
            | inr differs ↦ leads_below from y (alike from differs ∙ is.2) is.1 (along y (y ∷ line) is.3)
          ]

      -- it is moved below another that is not below it
      pub leads_thing : (new : A) → step' thing ≡ Some new → new ≢ thing → (leads : Leads step new) → (Contains leads.0 thing → ⊥) → Leads step' thing
      leads_thing new moved other leads off =
          leads_below thing new moved other
          (leads_kept new leads (λ x there. alike x (λ same. off (subst (Contains leads.0) same there))))
