-- Which entries are a domain or below it, by slots and by names.
use Rattle.std.proofs.Common.{◌≡◌, ◌↔◌, ◌⊎◌, inl, inr, ℕ, Bool, true, false, List, [], ◌∷◌, Option, None, Some, refl, ap, sym, subst, ◌∙◌}
use Rattle.std.specs.Option.{option_map}
use Rattle.std.proofs.lemmas.Bool.{cases_eq}
use Rattle.card_types.specs.Hierarchy.{IsLine, IsPath}
use Rattle.card_types.specs.Registry as registry
use Rattle.card_types.specs.Registry.{domain_of, entry_named}
use Rattle.card_types.specs.Represents.{Represents, domain_aid, domain_slot, thing_in}
use Rattle.card_types.specs.Well.{Well}
use Rattle.card_types.specs.declared.tables.Entry.{Entry}
use Rattle.card_types.specs.declared.tables.Tables.{Tables}
use Rattle.card_types.proofs.Domains.{domain_aid_is, same_domain, used_from_step}
use Rattle.card_types.proofs.EntryNames.{entry_in_slot, slot_of_entry}
use Rattle.card_types.proofs.LineChanges.{leads_kept}
use Rattle.domain_tree.specs.Above.{Above, IsTreeOf}
use Rattle.domain_tree.specs.Slots.{IsFreeOfLoops}
use Rattle.domain_tree.proofs.AboveNamed.{above_in_slots, above_named, free_of_loops}
use Rattle.domain_tree.proofs.Climb.{above_next, none_above_root, steps_from}
use Rattle.domain_tree.proofs.OnLine.{above_lower}
use Rattle.registry.specs.Tree.{IsSlotInTree}

-- over the same steps the same is above
path_alike : (step step' : ℕ → Option ℕ) → ((a : ℕ) → step' a ≡ step a) → (from to : ℕ) (path : List ℕ) → IsPath step from path to → IsPath step' from path to
path_alike step step' alike from to [] leads = leads
path_alike step step' alike from to (next ∷ path) leads = (alike from ∙ leads.0, path_alike step step' alike next to path leads.1)

pub above_alike : (step step' : ℕ → Option ℕ) → ((a : ℕ) → step' a ≡ step a) → (a b : ℕ) → Above step a b → Above step' a b
above_alike step step' alike a b above = record {
  other = above.other;
  path = above.path;
  leads = path_alike step step' alike b a above.path above.leads;
}

-- entries whose domains stay
module _ (entries entries' : List (Option Entry)) (steps : (slot : ℕ) → domain_slot entries' slot ≡ domain_slot entries slot) where
  pub free_still : IsFreeOfLoops entries → IsFreeOfLoops entries'
  free_still free slot entry at =
      let there = used_from_step entries slot entry.domain (sym (steps slot) ∙ ap (option_map (λ (e : Entry). e.domain)) at) in
      leads_kept (domain_slot entries) (domain_slot entries') slot (free slot there.0 there.1) (λ x _. steps x)

  pub in_tree_still : (domain slot : ℕ) → IsSlotInTree entries' domain slot → IsSlotInTree entries domain slot
  in_tree_still domain slot (inl same) = inl same
  in_tree_still domain slot (inr above) = inr (above_alike (domain_slot entries') (domain_slot entries) (λ k. sym (steps k)) domain slot above)

-- whether a line leads through one
module _ (step : ℕ → Option ℕ) (domain : ℕ) where
  abbrev pub InTree : ℕ → Type 0
  InTree from = (from ≡ domain) ⊎ Above step domain from

  pub decide_on_line : (from : ℕ) (line : List ℕ) → IsLine step from line → (is : Bool) × ((is ≡ true) ↔ InTree from)
  decide_on_line from [] is = absurd is
  decide_on_line from (x ∷ []) is = elim (cases_eq from domain) [
    | inl same ↦ (true, (λ _. inl same, λ _. refl))
    | inr apart ↦ (false, (λ yes. absurd (cc yes), λ there. absurd (elim there [ inl same ↦ apart same | inr above ↦ none_above_root step domain from is.1 above ])))
  ]
  decide_on_line from (x ∷ next ∷ rest) is = elim (cases_eq from domain) [
    | inl same ↦ (true, (λ _. inl same, λ _. refl))
    | inr apart ↦
        (let behind = decide_on_line next (next ∷ rest) is.3 in (
          behind.0,
          (
            λ yes. inr (elim (behind.1.0 yes) [
              | inl here ↦ record { other = λ same. apart (sym same); path = next ∷ []; leads = (is.2, here) }
              | inr above ↦ above_lower step from next domain (x ∷ next ∷ rest) is is.2 is.1 above
            ]),
            λ there. elim there [
              | inl same ↦ absurd (apart same)
              | inr above ↦ behind.1.1 (elim (above_next step domain from next is.2 above) [
                | inl here ↦ inl (sym here)
                | inr higher ↦ inr higher
              ])
            ],
          ),
        ))
  ]

-- nothing but entries is a domain that is used, or below it
pub used_in_tree : (entries : List (Option Entry)) (domain slot : ℕ) (top : Entry) → thing_in entries domain ≡ Some top → IsSlotInTree entries domain slot
    → (entry : Entry) × (thing_in entries slot ≡ Some entry)
used_in_tree entries domain slot top at (inl same) = (top, ap (thing_in entries) same ∙ at)
used_in_tree entries domain slot top at (inr above) =
    let next = steps_from (domain_slot entries) domain slot above in
    let entry = used_from_step entries slot next.0 next.1 in
    (entry.0, entry.1)

module _ (page : ℕ → List ℕ) (tables : Tables) (said : registry.Registry) (says : Represents page tables said) (well : Well said) (domain : ℕ) (top : Entry)
    (at : thing_in tables.entries.items domain ≡ Some top) where
  abbrev entries : List (Option Entry)
  entries = tables.entries.items

  abbrev root : List ℕ
  root = domain_aid tables.entries.items domain

  abbrev pub Named : List ℕ → Type 0
  Named aid = (aid ≡ root) ⊎ Above (domain_of said) root aid

  pub named_in_tree : (slot : ℕ) (entry : Entry) → thing_in tables.entries.items slot ≡ Some entry → IsSlotInTree tables.entries.items domain slot → Named entry.aid
  named_in_tree slot entry here (inl same) =
      inl (sym (domain_aid_is entries slot entry here) ∙ ap (domain_aid entries) same)
  named_in_tree slot entry here (inr above) =
      inr (subst (Above (domain_of said) root) (domain_aid_is entries slot entry here) (above_named page tables said says domain slot top entry at here above))

  pub in_tree_named : (slot : ℕ) (entry : Entry) → thing_in tables.entries.items slot ≡ Some entry → Named entry.aid → IsSlotInTree tables.entries.items domain slot
  in_tree_named slot entry here (inl same) =
      inl (same_domain page tables said says slot domain entry top here at (domain_aid_is entries slot entry here ∙ same))
  in_tree_named slot entry here (inr above) =
      inr (above_in_slots page tables said says well domain slot top entry at here
      (subst (Above (domain_of said) root) (sym (domain_aid_is entries slot entry here)) above))

  -- what no entry has is no name in the tree
  unnamed : (aid : List ℕ) → entry_named said aid ≡ None → Named aid → ⊥
  unnamed aid none (inl same) =
      let named = entry_in_slot page tables said says domain top at in
      let own : aid ≡ top.aid = same ∙ domain_aid_is entries domain top at in
      let clash = ap (entry_named said) own in
      cc
  unnamed aid none (inr above) = by above.path above.leads
    where
      by : (path : List (List ℕ)) → IsPath (domain_of said) aid path root → ⊥
      by [] leads = above.other (sym leads)
      by (next ∷ path) leads = (let steps = leads.0 in let gone = ap (option_map (λ (e : registry.Entry). e.domain)) none in cc)

  pub decide_named : (aid : List ℕ) → (is : Bool) × ((is ≡ true) ↔ Named aid)
  decide_named aid = by (entry_named said aid) refl
    where
      by : (o : Option registry.Entry) → entry_named said aid ≡ o → (is : Bool) × ((is ≡ true) ↔ Named aid)
      by None none = (false, (λ yes. absurd (cc yes), λ there. absurd (unnamed aid none there)))
      by (Some named) is =
          (let slot = slot_of_entry page tables said says aid named is in
          let line = free_of_loops page tables said says well slot.0 slot.1 slot.2 in
          let decides = decide_on_line (domain_slot entries) domain slot.0 line.0 line.1 in (
            decides.0,
            (
              λ yes. subst Named slot.4 (named_in_tree slot.0 slot.1 slot.2 (decides.1.0 yes)),
              λ there. decides.1.1 (in_tree_named slot.0 slot.1 slot.2 (subst Named (sym slot.4) there)),
            ),
          ))

  -- a test that tells the names of the tree
  abbrev pub these : List ℕ → Bool
  these aid = (decide_named aid).0

  pub these_tell : IsTreeOf said (domain_aid tables.entries.items domain) these
  these_tell aid = (decide_named aid).1
