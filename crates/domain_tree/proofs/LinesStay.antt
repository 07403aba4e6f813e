-- What is above a thing, and its line, where the steps up from it are as before, over any steps and of a registry.
use Rattle.std.proofs.Common.{◌≡◌, inl, inr, ℕ, List, [], ◌∷◌, ◌++◌, Option, Some, refl, sym, subst, ◌∙◌}
use Rattle.std.specs.Prelude.{◌↔◌}
use Rattle.card_types.proofs.LineChanges.{line_kept}
use Rattle.card_types.proofs.NamedThings.{aid_cases}
use Rattle.card_types.specs.Hierarchy.{IsPath}
use Rattle.card_types.specs.Registry.{Registry, domain_of}
use Rattle.domain_tree.proofs.Paths.{path_more, path_to_member}
use Rattle.domain_tree.specs.Above.{Above}
use Rattle.domain_tree.specs.LineLaws.{AboveStays, LineStays, StepsStay}

module _ {A : Type 0} where
  -- a path through things whose steps are as before
  module _ (step step' : A → Option A) (Q : A → Type 0) (on : (x next : A) → Q x → step x ≡ Some next → Q next) (alike : (x : A) → Q x → step' x ≡ step x) where
    path_while : (from to : A) (path : List A) → Q from → IsPath step from path to → IsPath step' from path to × Q to
    path_while from to [] q leads = (leads, subst Q leads q)
    path_while from to (next ∷ path) q leads =
        let rest = path_while next to path (on from next q leads.0) leads.1 in
        ((alike from q ∙ leads.0, rest.0), rest.1)

    pub above_while : (a b : A) → Q b → Above step a b → Above step' a b × Q a
    above_while a b q above =
        let path = path_while b a above.path q above.leads in
        (record { other = above.other; path = above.path; leads = path.0 }, path.1)

  -- what is above a thing is above it by the other steps, and the other way round
  pub same_above : (step step' : A → Option A) (Q : A → Type 0) → ((x next : A) → Q x → step x ≡ Some next → Q next) → ((x : A) → Q x → step' x ≡ step x)
      → (a b : A) → Q b → Above step' a b ↔ Above step a b
  same_above step step' Q on alike a b q = (
    λ above. (above_while step' step Q (λ x next here steps. on x next here (sym (alike x here) ∙ steps)) (λ x here. sym (alike x here)) a b q above).0,
    λ above. (above_while step step' Q on alike a b q above).0,
  )

module _ (before after : Registry) (b : List ℕ) (stays : StepsStay before after b) where
  -- steps lead up to it from the thing
  abbrev IsOnWay : List ℕ → Type 0
  IsOnWay x = (path : List (List ℕ)) × IsPath (domain_of before) b path x

  way_goes_on : (x next : List ℕ) → IsOnWay x → domain_of before x ≡ Some next → IsOnWay next
  way_goes_on x next way steps = (way.0 ++ next ∷ [], path_more (domain_of before) b x next way.0 way.1 steps)

  way_stays : (x : List ℕ) → IsOnWay x → domain_of after x ≡ domain_of before x
  way_stays x way = elim (aid_cases x b) [
    | inl same ↦ subst (λ (y : List ℕ). domain_of after y ≡ domain_of before y) (sym same) stays.itself
    | inr other ↦ stays.above x (record { other = other; path = way.0; leads = way.1 })
  ]

pub above_stays : AboveStays
above_stays before after b stays a =
    same_above (domain_of before) (domain_of after) (IsOnWay before after b stays) (way_goes_on before after b stays) (way_stays before after b stays) a b ([], refl)

pub line_stays : LineStays
line_stays before after b stays line is =
    line_kept (domain_of before) (domain_of after) b line is (λ x there. way_stays before after b stays x (path_to_member (domain_of before) b line x is there))
