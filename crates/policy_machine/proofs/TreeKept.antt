-- The tree of a domain, where the command of another domain changes what is below that domain alone.
use Rattle.std.proofs.Common.{◌≡◌, ◌≢◌, ◌⊎◌, inl, inr, ℕ, List, None, refl, sym, subst}
use Rattle.policy_machine.specs.Prelude.{Admitted, HasPowerOver, InTreeOf, IsAboveIn, IsAtOrAbove, IsDomainNamed, IsEntrusted, IsMember, IsOfCard, Member, Registry, StepsStay, TreeStays, acting, domain_of, member_place}
use Rattle.domain_tree.proofs.Compared.{above_compared, above_further, not_above_each_other}
use Rattle.domain_tree.proofs.LinesStay.{above_stays, line_stays}
use Rattle.policy_machine.proofs.TreesAlike.{LeavesTree, places_alike}
use Rattle.policy_machine.proofs.Strangers.{above_apart, above_out, lower_has_domain, named_has_domain, nothing_common, upper_named}

-- the tree stays, and what is new in it was entrusted to the domain
pub record KeepsTree (admitted : Admitted) (after : Registry) (domain : List ℕ) : Type 0 where
  pub stays : TreeStays admitted.at.registry after domain
  pub new : (member : Member) → InTreeOf after domain member → InTreeOf admitted.at.registry domain member ⊎ IsEntrusted admitted domain member

-- the tree is kept, and nothing that is above the acting domain comes to be in it
pub record SparesTree (admitted : Admitted) (after : Registry) (domain : List ℕ) : Type 0 where
  pub keeps : KeepsTree admitted after domain
  pub above_out : (x : List ℕ) → IsAboveIn admitted.at.registry x (acting admitted) → IsAtOrAbove after domain x → ⊥

-- two domains of a card, where the acting one has no power over the other
pub record AreApart (admitted : Admitted) (domain : List ℕ) : Type 0 where
  pub of : IsOfCard admitted.at.registry
  pub named : IsDomainNamed admitted.at.registry domain
  pub powerless : HasPowerOver admitted.at.registry (acting admitted) domain → ⊥

-- who is not below the acting domain, and has a domain, keeps it
abbrev pub KeepsElsewhere : Admitted → Registry → Type 0
KeepsElsewhere admitted after =
    (x : List ℕ) → (IsAboveIn admitted.at.registry (acting admitted) x → ⊥) → domain_of admitted.at.registry x ≢ None
    → domain_of after x ≡ domain_of admitted.at.registry x

module _ (admitted : Admitted) (domain : List ℕ) (apart : AreApart admitted domain) where
  abbrev before : Registry
  before = admitted.at.registry

  abbrev self : List ℕ
  self = acting admitted

  -- nothing in the tree is at or below the acting domain
  pub out_of_reach : (x : List ℕ) → IsAtOrAbove before domain x → IsAtOrAbove before self x → ⊥
  out_of_reach x at own = nothing_common before apart.of self domain apart.powerless x own at

  module _ (after : Registry) (elsewhere : KeepsElsewhere admitted after) where
    in_tree : (x : List ℕ) → IsAtOrAbove before domain x → domain_of after x ≡ domain_of before x
    in_tree x at = elsewhere x (λ above. out_of_reach x at (inr above)) (by at)
      where
        by : IsAtOrAbove before domain x → domain_of before x ≢ None
        by (inl same) = named_has_domain before x (subst (IsDomainNamed before) (sym same) apart.named)
        by (inr above) = lower_has_domain before domain x above

    above_it : (x : List ℕ) → IsAboveIn before x domain → domain_of after x ≡ domain_of before x
    above_it x higher =
        elsewhere x (above_apart before apart.of self domain apart.powerless x higher) (named_has_domain before x (upper_named before apart.of x domain higher))

    above_self : (x : List ℕ) → IsAboveIn before x self → domain_of after x ≡ domain_of before x
    above_self x higher =
        elsewhere x (λ above. not_above_each_other before apart.of self x above higher) (named_has_domain before x (upper_named before apart.of x self higher))

    -- the domains on the lines of what is in the tree, and of what is above the acting domain, are the same
    tree_steps : (x : List ℕ) → IsAtOrAbove before domain x → StepsStay before after x
    tree_steps x at = record { itself = in_tree x at; above = λ a higher. by a higher at }
      where
        by : (a : List ℕ) → IsAboveIn before a x → IsAtOrAbove before domain x → domain_of after a ≡ domain_of before a
        by a higher (inl same) = above_it a (subst (IsAboveIn before a) same higher)
        by a higher (inr below) = elim (above_compared before a domain x higher below) [
          | inl same ↦ in_tree a (inl same)
          | inr other ↦ elim other [
            | inl over ↦ above_it a over
            | inr under ↦ in_tree a (inr under)
          ]
        ]

    self_steps : (x : List ℕ) → IsAboveIn before x self → StepsStay before after x
    self_steps x higher = record { itself = above_self x higher; above = λ a over. above_self a (above_further before apart.of a x self over higher) }

    still_in_tree : (x : List ℕ) → IsAtOrAbove before domain x → IsAtOrAbove after domain x
    still_in_tree x (inl same) = inl same
    still_in_tree x (inr above) = inr ((above_stays before after x (tree_steps x (inr above)) domain).1 above)

    still_out : (x : List ℕ) → IsAboveIn before x self → IsAtOrAbove after domain x → ⊥
    still_out x higher (inl same) = above_out before apart.of self domain apart.powerless x higher (inl same)
    still_out x higher (inr above) =
        above_out before apart.of self domain apart.powerless x higher (inr ((above_stays before after x (self_steps x higher) domain).0 above))

    -- with the members that are there still, and those that are new
    pub spares_tree : ((member : Member) → IsMember before member → IsAtOrAbove before domain (member_place member) → IsMember after member)
        → ((member : Member) → InTreeOf after domain member → InTreeOf before domain member ⊎ IsEntrusted admitted domain member) → SparesTree admitted after domain
    spares_tree there new = record {
      keeps = record {
        stays = record {
          members = λ member in_it. (there member in_it.0 in_it.1, still_in_tree (member_place member) in_it.1);
          line = line_stays before after domain (tree_steps domain (inl refl));
        };
        new = new;
      };
      above_out = still_out;
    }

  -- where each thing keeps its domain, a tree that is left is spared
  pub spares_left : (after : Registry) → ((x : List ℕ) → domain_of after x ≡ domain_of before x) → LeavesTree before after domain → SparesTree admitted after domain
  spares_left after same leaves = record {
    keeps = record { stays = leaves.stays; new = λ member in_it. inl (leaves.back member in_it) };
    above_out = λ x higher at. above_out before apart.of self domain apart.powerless x higher ((places_alike before after same domain x).0 at);
  }
