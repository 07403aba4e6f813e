-- The tree of a domain where another domain gets an entry.
use Rattle.std.proofs.Common.{◌≡◌, ◌≢◌, ◌⊎◌, inl, inr, ℕ, ◌∷◌, List, None, ap, sym, subst, ◌∙◌}
use Rattle.std.specs.Prelude.{Contains}
use Rattle.std.specs.Option.{option_map}
use Rattle.std.proofs.lemmas.List.Elements.{All-contains}
use Rattle.std.proofs.lemmas.List.Sorted.{Contains-permutation}
use Rattle.card_types.proofs.LeastOfList.{none_fits}
use Rattle.card_types.proofs.Members.{contains_later}
use Rattle.card_types.proofs.NamedThings.{new_or_old}
use Rattle.card_types.proofs.SameAid.{same_aid_decides}
use Rattle.policy_machine.specs.Prelude.{AFile, AKey, Admitted, AnEntry, AnObject, Entry, InTreeOf, IsAboveIn, IsAtOrAbove, IsDomainNamed, IsEntrusted, IsEntryAdded, IsMember, IsWellFile, IsWellKey, IsWellObject, MayAddEntry, Member, Registry, acting, domain_of, member_place, same_aid}
use Rattle.domain_tree.proofs.AboveChanges.{above_added, above_others_of_added}
use Rattle.domain_tree.proofs.DomainsStay.{domains_after_entry_added}
use Rattle.policy_machine.proofs.Strangers.{named_has_domain, not_below}
use Rattle.policy_machine.proofs.TreeKept.{AreApart, KeepsElsewhere, SparesTree, spares_tree}

module _ (admitted : Admitted) (domain : List ℕ) (apart : AreApart admitted domain) (entry : Entry) (after : Registry)
    (may : MayAddEntry admitted.at.registry entry) (added : IsEntryAdded entry admitted.at.registry after) (own : entry.domain ≡ acting admitted) where
  abbrev before : Registry
  before = admitted.at.registry

  had_none : domain_of before entry.aid ≡ None
  had_none = ap (option_map (λ (e : Entry). e.domain)) may.free.no_entry

  elsewhere : KeepsElsewhere admitted after
  elsewhere x away has =
      domains_after_entry_added entry before after apart.of added x (λ same. has (subst (λ (a : List ℕ). domain_of before a ≡ None) (sym same) had_none))

  -- a domain that was there is another thing
  was_there : (x : List ℕ) → IsDomainNamed before x → x ≢ entry.aid
  was_there x named same = named_has_domain before x named (subst (λ (a : List ℕ). domain_of before a ≡ None) (sym same) had_none)

  there : (member : Member) → IsMember before member → IsAtOrAbove before domain (member_place member) → IsMember after member
  there (AnEntry e) is at = Contains-permutation (entry ∷ before.entries) after.entries e added.entries.same (contains_later entry before.entries e is)
  there (AFile file) is at = subst (λ (r : Registry). Contains r.files file) (sym added.same) is
  there (AKey key) is at = subst (λ (r : Registry). Contains r.keys key) (sym added.same) is
  there (AnObject object) is at = subst (λ (r : Registry). Contains r.objects object) (sym added.same) is

  was_in_tree : (x : List ℕ) → x ≢ entry.aid → IsAtOrAbove after domain x → IsAtOrAbove before domain x
  was_in_tree x other (inl here) = inl here
  was_in_tree x other (inr above) = inr ((above_others_of_added entry before after apart.of may added domain x other).0 above)

  -- the new entry is not in the tree
  new_is_out : IsAtOrAbove after domain entry.aid → ⊥
  new_is_out (inl here) = was_there domain apart.named (sym here)
  new_is_out (inr above) = elim ((above_added entry before after apart.of may added domain).0 above) [
    | inl same ↦ apart.powerless (inl (sym (same ∙ own)))
    | inr higher ↦ not_below before apart.of (acting admitted) domain apart.powerless (subst (IsAboveIn before domain) own higher)
  ]

  owned_by : (x : List ℕ) → IsDomainNamed before x → IsAtOrAbove after domain x → IsAtOrAbove before domain x
  owned_by x named at = was_in_tree x (was_there x named) at

  new : (member : Member) → InTreeOf after domain member → InTreeOf before domain member ⊎ IsEntrusted admitted domain member
  new (AnEntry e) (is, at) = elim (new_or_old (λ (e : Entry). e.aid) entry before.entries after.entries apart.of.ascending.entries added.entries e is) [
    | inl same ↦ absurd (new_is_out (subst (λ (a : Entry). IsAtOrAbove after domain a.aid) (sym same) at))
    | inr old ↦ inl (
      old,
      was_in_tree e.aid (λ same. none_fits (λ (x : Entry). same_aid x.aid entry.aid) before.entries may.free.no_entry e old ((same_aid_decides e.aid entry.aid).1 same)) at,
    )
  ]
  new (AFile file) (is, at) =
      let was = subst (λ (r : Registry). Contains r.files file) added.same is in
      inl (was, owned_by file.domain (All-contains (IsWellFile before) before.files file apart.of.well.files was).domain at)
  new (AKey key) (is, at) =
      let was = subst (λ (r : Registry). Contains r.keys key) added.same is in
      inl (was, owned_by key.owner (All-contains (IsWellKey before) before.keys key apart.of.well.keys was).owner at)
  new (AnObject object) (is, at) =
      let was = subst (λ (r : Registry). Contains r.objects object) added.same is in
      inl (was, owned_by object.owner (All-contains (IsWellObject before) before.objects object apart.of.well.objects was).owner at)

  pub added_spared : SparesTree admitted after domain
  added_spared = spares_tree admitted domain apart after elsewhere there new
