-- The first above a domain of those that fit is found on the way up, where there is one.
use Rattle.std.proofs.Common.{◌≡◌, ◌≢◌, ◌⊎◌, inl, inr, ℕ, Bool, true, false, List, [], ◌∷◌, Option, Some, refl, ap, sym, ◌∙◌}
use Rattle.card_types.proofs.NamedThings.{aid_cases, domain_leads}
use Rattle.card_types.specs.ChangeLaws.{IsOfCard}
use Rattle.card_types.specs.Hierarchy.{IsLine}
use Rattle.card_types.specs.Registry.{Registry, domain_of}
use Rattle.domain_tree.proofs.Compared.{above_further, not_above_each_other}
use Rattle.domain_tree.proofs.Paths.{above_step, root_alone}
use Rattle.domain_tree.specs.Above.{Above, IsFirstAbove, NoneAbove}
use Rattle.domain_tree.specs.LineLaws.{FirstAboveDecided}

module _ (registry : Registry) (of : IsOfCard registry) (fits : List ℕ → Bool) where
  abbrev step : List ℕ → Option (List ℕ)
  step = domain_of registry

  module _ (from next : List ℕ) (other : next ≢ from) (steps : step from ≡ Some next) where
    next_above : Above step next from
    next_above = record { other = other; path = next ∷ []; leads = (steps, refl) }

    -- what is above the one is the next or above that
    up : (a : List ℕ) → Above step a from → (a ≡ next) ⊎ Above step a next
    up a above = above_step step aid_cases a from next steps above

    next_first : fits next ≡ true → IsFirstAbove step fits from next
    next_first fit = record {
      above = next_above;
      fitting = fit;
      lowest = λ a above fit. up a above;
      none_lower = λ a above fit lower. elim (up a above) [
        | inl same ↦ lower.other (sym same)
        | inr higher ↦ not_above_each_other registry of next a lower higher
      ];
    }

    module _ (unfit : fits next ≡ false) where
      misfit : {P : Type 0} (a : List ℕ) → a ≡ next → fits a ≡ true → P
      misfit a same fit = (let clash = sym fit ∙ ap fits same ∙ unfit in cc)

      later_first : (first : List ℕ) → IsFirstAbove step fits next first → IsFirstAbove step fits from first
      later_first first is = record {
        above = above_further registry of first next from is.above next_above;
        fitting = is.fitting;
        lowest = λ a above fit. elim (up a above) [
          | inl same ↦ misfit a same fit
          | inr higher ↦ is.lowest a higher fit
        ];
        none_lower = λ a above fit lower. elim (up a above) [
          | inl same ↦ misfit a same fit
          | inr higher ↦ is.none_lower a higher fit lower
        ];
      }

      none_later : NoneAbove step fits next → NoneAbove step fits from
      none_later none a above fit = elim (up a above) [
        | inl same ↦ misfit a same fit
        | inr higher ↦ none a higher fit
      ]

  climb : (from : List ℕ) (line : List (List ℕ)) → IsLine step from line → ((first : List ℕ) × IsFirstAbove step fits from first) ⊎ NoneAbove step fits from
  climb from [] is = absurd is
  climb from (x ∷ []) is = inr (λ a above fit. above.other (sym (root_alone step from a above.path is.1 above.leads)))
  climb from (x ∷ next ∷ rest) is = by (fits next) refl (climb next (next ∷ rest) is.3)
    where
      by : (fit : Bool) → fits next ≡ fit → ((first : List ℕ) × IsFirstAbove step fits next first) ⊎ NoneAbove step fits next
          → ((first : List ℕ) × IsFirstAbove step fits from first) ⊎ NoneAbove step fits from
      by true fit later = inl (next, next_first from next is.1 is.2 fit)
      by false unfit (inl found) = inl (found.0, later_first from next is.1 is.2 unfit found.0 found.1)
      by false unfit (inr none) = inr (none_later from next is.1 is.2 unfit none)

pub first_above_decided : FirstAboveDecided
first_above_decided registry of fits b named = (let line = domain_leads registry of b named in climb registry of fits b line.0 line.1)
