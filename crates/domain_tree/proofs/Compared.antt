-- Of two that are above one thing, one is above the other, and none is above what is above it.
use Rattle.std.proofs.Common.{◌≡◌, ◌≢◌, ◌⊎◌, inl, inr, ℕ, List, [], ◌∷◌, Option, None, Some, refl, sym, subst}
use Rattle.std.specs.List.{list_any}
use Rattle.std.proofs.lemmas.Bool.{cases_Bool}
use Rattle.std.proofs.lemmas.Map.Made.{is_member-Decides}
use Rattle.card_types.proofs.NamedThings.{aid_cases}
use Rattle.card_types.proofs.SameAid.{same_aid_decides}
use Rattle.card_types.specs.Aid.{same_aid}
use Rattle.card_types.specs.ChangeLaws.{IsOfCard}
use Rattle.card_types.specs.Hierarchy.{IsPath}
use Rattle.card_types.specs.Registry.{Registry, domain_of}
use Rattle.card_types.specs.Well.{LeadsToRoot}
use Rattle.domain_tree.proofs.Climb.{steps_from}
use Rattle.domain_tree.proofs.Paths.{lead_to_each_other, path_joined, path_on_line, path_to_member}
use Rattle.domain_tree.proofs.Stepped.{stepped}
use Rattle.domain_tree.specs.Above.{Above}
use Rattle.domain_tree.specs.LineLaws.{AboveCompared, AboveDecided, AboveFurther, NotAboveEachOther}

module _ {A : Type 0} (step : A → Option A) where
  -- of two paths from one thing, one goes on from the end of the other
  paths_compared : (from a b : A) (up on : List A) → IsPath step from up a → IsPath step from on b
      → ((path : List A) × IsPath step a path b) ⊎ ((path : List A) × IsPath step b path a)
  paths_compared from a b [] on leads further = inl (on, subst (λ (x : A). IsPath step x on b) leads further)
  paths_compared from a b (next ∷ up) [] leads further = inr (next ∷ up, subst (λ (x : A). IsPath step x (next ∷ up) a) further leads)
  paths_compared from a b (next ∷ up) (other ∷ on) leads further =
      let same : other ≡ next = (let one = leads.0 in let two = further.0 in cc) in
      paths_compared next a b up on leads.1 (subst (λ (x : A). IsPath step x on b) same further.1)

  compared : ((x y : A) → (x ≡ y) ⊎ (x ≢ y)) → (a b c : A) → Above step a c → Above step b c → (a ≡ b) ⊎ Above step a b ⊎ Above step b a
  compared cases a b c first second = elim (cases a b) [
    | inl same ↦ inl same
    | inr other ↦ elim (paths_compared c a b first.path second.path first.leads second.leads) [
      | inl on ↦ inr (inr (record { other = λ same. other (sym same); path = on.0; leads = on.1 }))
      | inr up ↦ inr (inl (record { other = other; path = up.0; leads = up.1 }))
    ]
  ]

pub above_compared : AboveCompared
above_compared registry a b c first second = compared (domain_of registry) aid_cases a b c first second

-- what steps to anything leads to a root
pub step_leads : (registry : Registry) → IsOfCard registry → (x next : List ℕ) → domain_of registry x ≡ Some next → LeadsToRoot registry x
step_leads registry of x next steps = (let entry = stepped registry of x next steps in subst (LeadsToRoot registry) entry.1 entry.3.line)

-- two that lead to each other are one
pub both_ways : (registry : Registry) → IsOfCard registry → (a b : List ℕ) (up down : List (List ℕ)) → IsPath (domain_of registry) a up b → IsPath (domain_of registry) b down a → a ≡ b
both_ways registry of a b [] down to back = to
both_ways registry of a b (next ∷ up) down to back =
    let line = step_leads registry of a next to.0 in
    lead_to_each_other (domain_of registry) a b line.0 (next ∷ up) down line.1 to back

pub not_above_each_other : NotAboveEachOther
not_above_each_other registry of a b above back = above.other (both_ways registry of a b back.path above.path back.leads above.leads)

pub above_further : AboveFurther
above_further registry of a b c above below =
    let joined = path_joined (domain_of registry) c b a below.path above.path below.leads above.leads in
    record {
      other = λ same. below.other (both_ways registry of b c above.path below.path (subst (IsPath (domain_of registry) b above.path) same above.leads) below.leads);
      path = joined.0;
      leads = joined.1;
    }

pub above_decided : AboveDecided
above_decided registry of a b = by (domain_of registry b) refl
  where
    by : (o : Option (List ℕ)) → domain_of registry b ≡ o → Above (domain_of registry) a b ⊎ (Above (domain_of registry) a b → ⊥)
    by None none = inr (λ above. (let steps = steps_from (domain_of registry) a b above in let on = steps.1 in cc))
    by (Some next) steps =
        (let line = step_leads registry of b next steps in
        let on_line = is_member-Decides {eq = same_aid} same_aid_decides line.0 a in
        elim (aid_cases a b) [
          | inl same ↦ inr (λ above. above.other same)
          | inr other ↦ elim (cases_Bool (list_any (same_aid a) line.0)) [
            | inl there ↦
                (let up = path_to_member (domain_of registry) b line.0 a line.1 (on_line.0 there) in inl (record { other = other; path = up.0; leads = up.1 }))
            | inr missed ↦
                inr (λ above. (let there = on_line.1 (path_on_line (domain_of registry) b a line.0 above.path line.1 above.leads) in cc))
          ]
        ])
