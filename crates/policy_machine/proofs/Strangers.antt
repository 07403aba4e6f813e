-- Two domains of which the one has no power over the other: nothing is at or below both.
use Rattle.std.proofs.Common.{◌≡◌, ◌≢◌, inl, inr, ℕ, true, List, [], ◌∷◌, Option, None, Some, sym, subst, ◌∙◌}
use Rattle.std.specs.Prelude.{MatchOption}
use Rattle.std.specs.Option.{option_map}
use Rattle.policy_machine.specs.Prelude.{Entry, HasPowerOver, IsAboveIn, IsAtOrAbove, IsDomainNamed, IsOfCard, IsPath, Registry, domain_of, entry_named, is_domain}
use Rattle.domain_tree.proofs.AboveChanges.{step_to_domain}
use Rattle.domain_tree.proofs.Compared.{above_compared, above_further}

module _ (registry : Registry) where
  -- a domain that is named has a domain, and so has whatever something is above
  pub named_has_domain : (x : List ℕ) → IsDomainNamed registry x → domain_of registry x ≢ None
  named_has_domain x named = by (entry_named registry x) named
    where
      by : (o : Option Entry) → MatchOption o ⊥ (λ entry. is_domain entry ≡ true) → option_map (λ (entry : Entry). entry.domain) o ≢ None
      by None is = absurd is
      by (Some entry) is = λ none. cc

  pub lower_has_domain : (a b : List ℕ) → IsAboveIn registry a b → domain_of registry b ≢ None
  lower_has_domain a b above = by above.path above.leads
    where
      by : (path : List (List ℕ)) → IsPath (domain_of registry) b path a → domain_of registry b ≢ None
      by [] leads = absurd (above.other (sym leads))
      by (next ∷ path) leads = λ none. (let clash = sym leads.0 ∙ none in cc)

  module _ (of : IsOfCard registry) where
    last_named : (from next to : List ℕ) (path : List (List ℕ)) → IsPath (domain_of registry) from (next ∷ path) to → IsDomainNamed registry to
    last_named from next to [] leads = subst (IsDomainNamed registry) leads.1 (step_to_domain registry of from next leads.0)
    last_named from next to (further ∷ path) leads = last_named next further to path leads.1

    -- what is above another is a domain
    pub upper_named : (a b : List ℕ) → IsAboveIn registry a b → IsDomainNamed registry a
    upper_named a b above = by above.path above.leads
      where
        by : (path : List (List ℕ)) → IsPath (domain_of registry) b path a → IsDomainNamed registry a
        by [] leads = absurd (above.other (sym leads))
        by (next ∷ path) leads = last_named b next a path leads

    module _ (one other : List ℕ) (powerless : HasPowerOver registry one other → ⊥) where
      pub not_above : IsAboveIn registry one other → ⊥
      not_above above = powerless (inr (inl above))

      pub not_below : IsAboveIn registry other one → ⊥
      not_below above = powerless (inr (inr (inl above)))

      -- nothing is at or below both
      pub nothing_common : (x : List ℕ) → IsAtOrAbove registry one x → IsAtOrAbove registry other x → ⊥
      nothing_common x (inl here) (inl there) = powerless (inl (sym here ∙ there))
      nothing_common x (inl here) (inr above) = not_below (subst (IsAboveIn registry other) here above)
      nothing_common x (inr above) (inl there) = not_above (subst (IsAboveIn registry one) there above)
      nothing_common x (inr above) (inr higher) = elim (above_compared registry one other x above higher) [
        | inl same ↦ powerless (inl same)
        | inr apart ↦ elim apart [
          | inl over ↦ not_above over
          | inr under ↦ not_below under
        ]
      ]

      -- what is above the one is not in the tree of the other
      pub above_out : (x : List ℕ) → IsAboveIn registry x one → IsAtOrAbove registry other x → ⊥
      above_out x higher (inl there) = not_below (subst (λ (a : List ℕ). IsAboveIn registry a one) there higher)
      above_out x higher (inr above) = not_below (above_further registry of other x one above higher)

      -- the one is above nothing that is above the other
      pub above_apart : (x : List ℕ) → IsAboveIn registry x other → IsAboveIn registry one x → ⊥
      above_apart x higher above = not_above (above_further registry of one x other above higher)
