-- Lines, over any steps.
use Rattle.std.proofs.Common.{◌≡◌, ◌≢◌, List, [], ◌∷◌, Option, Some, refl, ap, sym, subst, ◌∙◌}
use Rattle.card_types.specs.Hierarchy.{IsLine}

module _ {A : Type 0} (step : A → Option A) where
  -- what a line begins with has a step
  pub line_steps : (from : A) (line : List A) → IsLine step from line → (next : A) × (step from ≡ Some next)
  line_steps from [] line = absurd line
  line_steps from (first ∷ []) line = (from, line.1)
  line_steps from (first ∷ next ∷ rest) line = (next, line.2)

  -- a line goes on from one that steps to its first
  pub line_more : (from next : A) (line : List A) → step from ≡ Some next → next ≢ from → IsLine step next line → IsLine step from (from ∷ line)
  line_more from next [] steps other line = absurd line
  line_more from next (first ∷ []) steps other line =
      let same : first ≡ next = line.0 in
      (refl, λ alike. other (sym same ∙ alike), steps ∙ ap Some (sym same), (refl, ap step same ∙ line.1 ∙ ap Some (sym same)))
  line_more from next (first ∷ second ∷ rest) steps other line =
      let same : first ≡ next = line.0 in (
        refl,
        λ alike. other (sym same ∙ alike),
        steps ∙ ap Some (sym same),
        subst (λ (f : A). IsLine step f (first ∷ second ∷ rest)) (sym same) line,
      )

  -- there is one line at most
  pub one_line : (from : A) (xs ys : List A) → IsLine step from xs → IsLine step from ys → xs ≡ ys
  one_line from [] ys one other = absurd one
  one_line from (x ∷ xs) [] one other = absurd other
  one_line from (x ∷ []) (y ∷ []) one other = ap (λ z. z ∷ []) (one.0 ∙ sym other.0)
  one_line from (x ∷ []) (y ∷ z ∷ ys) one other =
      let same : z ≡ from = (let steps = one.1 in let on = other.2 in cc) in
      absurd (other.1 same)
  one_line from (x ∷ z ∷ xs) (y ∷ []) one other =
      let same : z ≡ from = (let steps = other.1 in let on = one.2 in cc) in
      absurd (one.1 same)
  one_line from (x ∷ w ∷ xs) (y ∷ z ∷ ys) one other =
      let same : w ≡ z = (let steps = one.2 in let on = other.2 in cc) in
      let first : x ≡ y = one.0 ∙ sym other.0 in
      let rest = one_line w (w ∷ xs) (z ∷ ys) one.3 (subst (λ (f : A). IsLine step f (z ∷ ys)) (sym same) other.3) in
      cc
