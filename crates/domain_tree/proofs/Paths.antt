-- Paths and lines, over any steps.
use Rattle.std.proofs.Common.{◌≡◌, ◌≢◌, ◌⊎◌, inl, inr, ◌<◌, ◌≤◌, Bool, List, [], ◌∷◌, ◌++◌, length, Option, Some, refl, ap, sym, subst, ◌∙◌, arith}
use Rattle.std.specs.Prelude.{Contains}
use Rattle.card_types.specs.Hierarchy.{IsLine, IsPath}
use Rattle.card_types.proofs.Lines.{one_line}
use Rattle.domain_tree.specs.Above.{Above, IsFirstAbove}
use Rattle.card_types.proofs.Members.{contains_cases, contains_first, contains_later}

module _ {A : Type 0} (step : A → Option A) where
  pub path_more : (from at next : A) (path : List A) → IsPath step from path at → step at ≡ Some next → IsPath step from (path ++ next ∷ []) next
  path_more from at next [] leads steps = (ap step leads ∙ steps, refl)
  path_more from at next (first ∷ path) leads steps = (leads.0, path_more first at next path leads.1 steps)

  -- a path goes on from the end of another
  pub path_joined : (from at to : A) (up on : List A) → IsPath step from up at → IsPath step at on to → (path : List A) × IsPath step from path to
  path_joined from at to [] on leads further = (on, subst (λ (a : A). IsPath step a on to) (sym leads) further)
  path_joined from at to (next ∷ up) on leads further =
      let rest = path_joined next at to up on leads.1 further in
      (next ∷ rest.0, (leads.0, rest.1))

  -- all that a root leads to is the root
  pub root_alone : (root to : A) (path : List A) → step root ≡ Some root → IsPath step root path to → root ≡ to
  root_alone root to [] itself leads = leads
  root_alone root to (next ∷ path) itself leads =
      let same : next ≡ root = (let steps = leads.0 in cc) in
      root_alone root to path itself (subst (λ (a : A). IsPath step a path to) same leads.1)

  -- what a line leads to has a line that is shorter, if it is another
  pub line_along : (from to : A) (line path : List A) → IsLine step from line → IsPath step from path to
      → (rest : List A) × IsLine step to rest × (length rest ≤ length line) × ((from ≡ to) ⊎ (length rest < length line))
  line_along from to line [] is leads = (line, subst (λ (a : A). IsLine step a line) leads is, omega arith, inl leads)
  line_along from to [] (next ∷ path) is leads = absurd is
  line_along from to (x ∷ []) (next ∷ path) is leads =
      let same : next ≡ from = (let steps = leads.0 in let itself = is.1 in cc) in
      let rest = line_along next to (x ∷ []) path (subst (λ (a : A). IsLine step a (x ∷ [])) (sym same) is) leads.1 in
      (rest.0, rest.1, rest.2, inl (sym same ∙ root_alone next to path (ap step same ∙ is.1 ∙ ap Some (sym same)) leads.1))
  line_along from to (x ∷ y ∷ line) (next ∷ path) is leads =
      let same : y ≡ next = (let steps = leads.0 in let on = is.2 in cc) in
      let rest = line_along next to (y ∷ line) path (subst (λ (a : A). IsLine step a (y ∷ line)) same is.3) leads.1 in
      let shorter : length rest.0 < length (x ∷ y ∷ line) = omega (arith, rest.2) in
      (rest.0, rest.1, omega arith, inr shorter)

  -- two that lead to each other are one
  pub lead_to_each_other : (a b : A) (line up down : List A) → IsLine step a line → IsPath step a up b → IsPath step b down a → a ≡ b
  lead_to_each_other a b line up down is to back =
      let there = line_along a b line up is to in
      let again = line_along b a there.0 down there.1 back in
      let same = ap length (one_line step a again.0 line again.1 is) in
      elim there.3 [
        | inl alike ↦ alike
        | inr shorter ↦ absurd (omega (arith, again.2))
      ]

  -- one of those above that fit is the first
  pub one_first_above : (fits : A → Bool) (b x y : A) → IsFirstAbove step fits b x → IsFirstAbove step fits b y → x ≡ y
  one_first_above fits b x y one other = elim (one.lowest y other.above other.fitting) [
    | inl same ↦ sym same
    | inr over ↦ absurd (other.none_lower x one.above one.fitting over)
  ]

  -- each one of a line has a line that is no longer
  pub line_of_member : (from : A) (line : List A) (member : A) → IsLine step from line → Contains line member
      → (rest : List A) × IsLine step member rest × (length rest ≤ length line)
  line_of_member from [] member is there = absurd is
  line_of_member from (x ∷ []) member is there = elim (contains_cases x [] member there) [
    | inl same ↦ (x ∷ [], subst (λ (a : A). IsLine step a (x ∷ [])) (sym is.0 ∙ same) is, omega arith)
    | inr later ↦ absurd (omega (arith, later.1))
  ]
  line_of_member from (x ∷ y ∷ line) member is there = elim (contains_cases x (y ∷ line) member there) [
    | inl same ↦ (x ∷ y ∷ line, subst (λ (a : A). IsLine step a (x ∷ y ∷ line)) (sym is.0 ∙ same) is, omega arith)
    | inr later ↦ (let rest = line_of_member y (y ∷ line) member is.3 later in (rest.0, rest.1, omega (arith, rest.2)))
  ]

  -- what a line begins with does not come again
  pub first_alone : (from x : A) (line : List A) → IsLine step from (x ∷ line) → Contains line x → ⊥
  first_alone from x [] is there = omega (arith, there.1)
  first_alone from x (y ∷ line) is there =
      let here : IsLine step x (x ∷ y ∷ line) = subst (λ (a : A). IsLine step a (x ∷ y ∷ line)) (sym is.0) is in
      let rest = line_of_member y (y ∷ line) x is.3 there in
      let same = ap length (one_line step x rest.0 (x ∷ y ∷ line) rest.1 here) in
      omega (arith, rest.2)

  -- steps lead to each one of a line
  pub path_to_member : (from : A) (line : List A) (member : A) → IsLine step from line → Contains line member → (path : List A) × IsPath step from path member
  path_to_member from [] member is there = absurd is
  path_to_member from (x ∷ []) member is there = elim (contains_cases x [] member there) [
    | inl same ↦ ([], sym is.0 ∙ same)
    | inr later ↦ absurd (omega (arith, later.1))
  ]
  path_to_member from (x ∷ y ∷ line) member is there = elim (contains_cases x (y ∷ line) member there) [
    | inl same ↦ ([], sym is.0 ∙ same)
    | inr later ↦ (let rest = path_to_member y (y ∷ line) member is.3 later in (y ∷ rest.0, (is.2, rest.1)))
  ]

  -- what a path leads to is on the line
  pub path_on_line : (from to : A) (line path : List A) → IsLine step from line → IsPath step from path to → Contains line to
  path_on_line from to [] path is leads = absurd is
  path_on_line from to (x ∷ []) path is leads =
      subst (Contains (x ∷ [])) (is.0 ∙ root_alone from to path is.1 leads) (contains_first x [])
  path_on_line from to (x ∷ y ∷ line) [] is leads = subst (Contains (x ∷ y ∷ line)) (is.0 ∙ leads) (contains_first x (y ∷ line))
  path_on_line from to (x ∷ y ∷ line) (next ∷ path) is leads =
      let same : next ≡ y = (let up = is.2 in let on = leads.0 in cc) in
      contains_later x (y ∷ line) to (path_on_line y to (y ∷ line) path is.3 (subst (λ (n : A). IsPath step n path to) same leads.1))

  -- one that is neither this one nor above it is not on its line
  pub off_line : (from other : A) (line : List A) → IsLine step from line → from ≢ other → (Above step other from → ⊥) → Contains line other → ⊥
  off_line from other line is apart not_above there =
      let path = path_to_member from line other is there in
      not_above (record { other = λ same. apart (sym same); path = path.0; leads = path.1 })

module _ {A : Type 0} where
  -- above one that steps to another are that one and those above it
  pub above_step : (step : A → Option A) (cases : (x y : A) → (x ≡ y) ⊎ (x ≢ y)) (a b next : A) → step b ≡ Some next → Above step a b → (a ≡ next) ⊎ Above step a next
  above_step step cases a b next steps above = by above.path above.leads
    where
      by : (path : List A) → IsPath step b path a → (a ≡ next) ⊎ Above step a next
      by [] leads = absurd (above.other (sym leads))
      by (first ∷ path) leads =
          (let same : first ≡ next = (let here = leads.0 in cc) in
          elim (cases a next) [
            | inl alike ↦ inl alike
            | inr other ↦ inr (record { other = other; path = path; leads = subst (λ (n : A). IsPath step n path a) same leads.1 })
          ])

  pub step_above : (step : A → Option A) (a b next : A) → step b ≡ Some next → a ≢ b → (a ≡ next) ⊎ Above step a next → Above step a b
  step_above step a b next steps other (inl same) = record { other = other; path = next ∷ []; leads = (steps, sym same) }
  step_above step a b next steps other (inr above) = record { other = other; path = next ∷ above.path; leads = (steps, above.leads) }
