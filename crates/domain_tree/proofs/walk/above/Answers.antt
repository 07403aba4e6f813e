use Rattle.std.proofs.Common.{◌≡◌, ℕ, ◌==◌, Bool, Option, None, Some, refl, subst}
use Rattle.std.specs.Prelude.{IfSome, IfNone, IsTrue}
use Rattle.std.specs.Option.{is_some}
use Rattle.std.proofs.lemmas.Bool.{eq-eqb, eqb-true}
use Rattle.domain_tree.specs.Above.{Above, IsFirstAbove, NoneAbove}
use Rattle.domain_tree.proofs.walk.above.Goals as goal

-- a slot is above where the first that is this one is there
is_above : (step : ℕ → Option ℕ) (a b : ℕ) (first : Option ℕ) (is : Bool) → is ≡ is_some first
    → IfSome first (IsFirstAbove step (λ slot. slot == a) b) → IfNone first (NoneAbove step (λ slot. slot == a) b)
    → (IsTrue is → Above step a b) × (Above step a b → IsTrue is)
is_above step a b None is same found none = (λ there. cc, λ above. absurd (none a above (eq-eqb a a refl)))
is_above step a b (Some first) is same found none = (λ there. subst (λ (s : ℕ). Above step s b) (eqb-true first a found.fitting) found.above, λ above. same)

pub returns : goal.returns
returns c = is_above _ c.args.a c.args.b c.first_above.result c.is_some.result c.is_some.ensures c.first_above.ensures.some c.first_above.ensures.none
