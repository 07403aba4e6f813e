-- The first above one thing, on its line.
use Rattle.std.proofs.Common.{◌≡◌, ◌≢◌, ℕ, Bool, true, false, cond, List, [], ◌∷◌, Option, None, Some, refl, sym, ap, subst, ◌∙◌, inl, inr}
use Rattle.std.specs.Prelude.{find}
use Rattle.card_types.specs.Hierarchy.{IsLine, IsPath}
use Rattle.domain_tree.specs.Above.{Above, IsFirstAbove, NoneAbove}
use Rattle.domain_tree.proofs.Climb.{above_next, none_above_root}
use Rattle.domain_tree.proofs.Paths.{lead_to_each_other}

module _ (step : ℕ → Option ℕ) where
  -- what is above the next is above the one itself
  pub above_lower : (from next a : ℕ) (line : List ℕ) → IsLine step from line → step from ≡ Some next → next ≢ from → Above step a next → Above step a from
  above_lower from next a line is steps on above = record {
    other = λ same. on (sym (lead_to_each_other step from next line (next ∷ []) above.path is (steps, refl) (subst (IsPath step next above.path) same above.leads)));
    path = next ∷ above.path;
    leads = (steps, above.leads);
  }

  next_is_above : (from next : ℕ) → step from ≡ Some next → next ≢ from → Above step next from
  next_is_above from next steps on = record { other = on; path = next ∷ []; leads = (steps, refl) }

  -- two that are above each other are one
  not_both : {P : Type 0} (a b : ℕ) (line : List ℕ) → IsLine step a line → Above step a b → Above step b a → P
  not_both a b line is above back =
      absurd (above.other (lead_to_each_other step a b line back.path above.path is back.leads above.leads))

  module _ (fits : ℕ → Bool) where
    passed : (from : ℕ) (x : ℕ) (rest : List ℕ) → x ≡ from → fits from ≡ false → find fits (x ∷ rest) ≡ find fits rest
    passed from x rest same misfit = ap (λ b. cond b (Some x) (find fits rest)) (ap fits same ∙ misfit)

    pub none_on_line : (from : ℕ) (line : List ℕ) → IsLine step from line → fits from ≡ false → NoneAbove step fits from → find fits line ≡ None
    none_on_line from [] is misfit none = absurd is
    none_on_line from (x ∷ []) is misfit none = passed from x [] is.0 misfit
    none_on_line from (x ∷ next ∷ rest) is misfit none =
        passed from x (next ∷ rest) is.0 misfit ∙ by (fits next) refl
        (λ unfit. none_on_line next (next ∷ rest) is.3 unfit (λ a above. none a (above_lower from next a (x ∷ next ∷ rest) is is.2 is.1 above)))
      where
        by : (fit : Bool) → fits next ≡ fit → (fits next ≡ false → find fits (next ∷ rest) ≡ None) → find fits (next ∷ rest) ≡ None
        by true same more = absurd (none next (next_is_above from next is.2 is.1) same)
        by false same more = more same

    pub first_on_line : (from : ℕ) (line : List ℕ) (first : ℕ) → IsLine step from line → fits from ≡ false → IsFirstAbove step fits from first
        → find fits line ≡ Some first
    first_on_line from [] first is misfit above = absurd is
    first_on_line from (x ∷ []) first is misfit above = absurd (none_above_root step first from is.1 above.above)
    first_on_line from (x ∷ next ∷ rest) first is misfit above =
        passed from x (next ∷ rest) is.0 misfit ∙ by (fits next) refl
        (λ unfit goes_on. first_on_line next (next ∷ rest) first is.3 unfit (record {
          above = goes_on;
          fitting = above.fitting;
          lowest = λ a higher fit. above.lowest a (above_lower from next a (x ∷ next ∷ rest) is is.2 is.1 higher) fit;
          none_lower = λ a higher fit. above.none_lower a (above_lower from next a (x ∷ next ∷ rest) is is.2 is.1 higher) fit;
        }))
      where
        by : (fit : Bool) → fits next ≡ fit → (fits next ≡ false → Above step first next → find fits (next ∷ rest) ≡ Some first)
            → find fits (next ∷ rest) ≡ Some first
        by true same more = elim (above_next step first from next is.2 above.above) [
          | inl here ↦ ap (λ b. cond b (Some next) (find fits rest)) same ∙ ap Some (sym here)
          | inr higher ↦ elim (above.lowest next (next_is_above from next is.2 is.1) same) [
            | inl here ↦ ap (λ b. cond b (Some next) (find fits rest)) same ∙ ap Some here
            | inr lower ↦ not_both next first (next ∷ rest) is.3 lower higher
          ]
        ]
        by false same more = elim (above_next step first from next is.2 above.above) [
          | inl here ↦ (let clash = sym same ∙ ap fits (sym here) ∙ above.fitting in cc)
          | inr higher ↦ more same higher
        ]
