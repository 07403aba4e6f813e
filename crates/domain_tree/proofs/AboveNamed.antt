-- What is above what, by slots and by names.
use Rattle.std.proofs.Common.{◌≡◌, inl, inr, ℕ, Bool, List, [], ◌∷◌, Option, Some, refl, ap, sym, subst, ◌∙◌}
use Rattle.std.specs.Prelude.{map}
use Rattle.card_types.specs.Hierarchy.{IsPath}
use Rattle.card_types.specs.Registry as registry
use Rattle.card_types.specs.Registry.{domain_of}
use Rattle.card_types.specs.Represents.{Represents, domain_aid, domain_slot, thing_in}
use Rattle.card_types.specs.Well.{Well}
use Rattle.card_types.specs.declared.tables.Entry.{Entry}
use Rattle.card_types.specs.declared.tables.Tables.{Tables}
use Rattle.card_types.proofs.DomainLines.{line_in_slots}
use Rattle.card_types.proofs.Domains.{domain_is_used, same_domain, step_from_used, step_named}
use Rattle.domain_tree.specs.Above.{Above, IsFirstAbove, NoneAbove}
use Rattle.domain_tree.specs.Slots.{IsFreeOfLoops}

module _ (page : ℕ → List ℕ) (tables : Tables) (said : registry.Registry) (says : Represents page tables said) where
  abbrev entries : List (Option Entry)
  entries = tables.entries.items

  path_named : (from to : ℕ) (path : List ℕ) → IsPath (domain_slot entries) from path to
      → IsPath (domain_of said) (domain_aid entries from) (map (domain_aid entries) path) (domain_aid entries to)
  path_named from to [] leads = ap (domain_aid entries) leads
  path_named from to (next ∷ path) leads = (step_named page tables said says from next leads.0, path_named next to path leads.1)

  -- what is above by slots is above by names
  pub above_named : (a b : ℕ) (x y : Entry) → thing_in tables.entries.items a ≡ Some x → thing_in tables.entries.items b ≡ Some y
      → Above (domain_slot tables.entries.items) a b → Above (domain_of said) (domain_aid tables.entries.items a) (domain_aid tables.entries.items b)
  above_named a b x y at_a at_b above = record {
    other = λ alike. above.other (same_domain page tables said says a b x y at_a at_b alike);
    path = map (domain_aid entries) above.path;
    leads = path_named b a above.path above.leads;
  }

  module _ (well : Well said) where
    pub free_of_loops : IsFreeOfLoops tables.entries.items
    free_of_loops slot entry at = line_in_slots page tables said says well slot entry at

    -- steps by slots lead to a used slot
    path_to_used : (from to : ℕ) (entry : Entry) (path : List ℕ) → thing_in entries from ≡ Some entry → IsPath (domain_slot entries) from path to
        → (x : Entry) × (thing_in entries to ≡ Some x)
    path_to_used from to entry [] at leads = (entry, subst (λ (s : ℕ). thing_in entries s ≡ Some entry) leads at)
    path_to_used from to entry (next ∷ path) at leads =
        let domain = domain_is_used page tables said says well from entry at in
        let same : entry.domain ≡ next = (let steps = step_from_used entries from entry at in let on = leads.0 in cc) in
        path_to_used next to domain.0 path (subst (λ (s : ℕ). thing_in entries s ≡ Some domain.0) same domain.1) leads.1

    -- steps by names are steps by slots
    path_in_slots : (from : ℕ) (entry : Entry) (path : List (List ℕ)) (aid : List ℕ) → thing_in entries from ≡ Some entry
        → IsPath (domain_of said) (domain_aid entries from) path aid
        → (to : ℕ) × (x : Entry) × (thing_in entries to ≡ Some x) × (domain_aid entries to ≡ aid) × (slots : List ℕ) × IsPath (domain_slot entries) from slots to
    path_in_slots from entry [] aid at leads = (from, entry, at, leads, [], refl)
    path_in_slots from entry (next ∷ path) aid at leads =
        let steps = step_from_used entries from entry at in
        let named = step_named page tables said says from entry.domain steps in
        let same : next ≡ domain_aid entries entry.domain = (let on = leads.0 in cc) in
        let domain = domain_is_used page tables said says well from entry at in
        let rest = path_in_slots entry.domain domain.0 path aid domain.1 (subst (λ (n : List ℕ). IsPath (domain_of said) n path aid) same leads.1) in
        (rest.0, rest.1, rest.2, rest.3, entry.domain ∷ rest.4, (steps, rest.5))

    -- what is above by names is a used slot, and above by slots
    pub slot_above : (b : ℕ) (y : Entry) (aid : List ℕ) → thing_in tables.entries.items b ≡ Some y → Above (domain_of said) aid (domain_aid tables.entries.items b)
        → (a : ℕ) × (x : Entry) × (thing_in tables.entries.items a ≡ Some x) × (domain_aid tables.entries.items a ≡ aid) × Above (domain_slot tables.entries.items) a b
    slot_above b y aid at_b above =
        let to = path_in_slots b y above.path aid at_b above.leads in (
          to.0,
          to.1,
          to.2,
          to.3,
          record {
            other = λ alike. above.other (sym to.3 ∙ ap (domain_aid entries) alike);
            path = to.4;
            leads = to.5;
          },
        )

    pub above_in_slots : (a b : ℕ) (x y : Entry) → thing_in tables.entries.items a ≡ Some x → thing_in tables.entries.items b ≡ Some y
        → Above (domain_of said) (domain_aid tables.entries.items a) (domain_aid tables.entries.items b) → Above (domain_slot tables.entries.items) a b
    above_in_slots a b x y at_a at_b above =
        let to = slot_above b y (domain_aid entries a) at_b above in
        subst (λ (s : ℕ). Above (domain_slot entries) s b) (same_domain page tables said says to.0 a to.1 x to.2 at_a to.3) to.4

    -- the first above by slots is the first above by names, where a test by slots is one by names
    module _ (fits : ℕ → Bool) (named : List ℕ → Bool)
        (alike : (slot : ℕ) (entry : Entry) → thing_in tables.entries.items slot ≡ Some entry → fits slot ≡ named (domain_aid tables.entries.items slot)) where
      pub first_above_named : (b first : ℕ) (y : Entry) → thing_in tables.entries.items b ≡ Some y → IsFirstAbove (domain_slot tables.entries.items) fits b first
          → IsFirstAbove (domain_of said) named (domain_aid tables.entries.items b) (domain_aid tables.entries.items first)
      first_above_named b first y at_b is =
          let used = path_to_used b first y is.above.path at_b is.above.leads in
          record {
            above = above_named first b used.0 y used.1 at_b is.above;
            fitting = sym (alike first used.0 used.1) ∙ is.fitting;
            lowest = λ aid above fit.
                (let to = slot_above b y aid at_b above in
                elim (is.lowest to.0 to.4 (alike to.0 to.1 to.2 ∙ ap named to.3 ∙ fit)) [
                  | inl same ↦ inl (sym to.3 ∙ ap (domain_aid entries) same)
                  | inr higher ↦ inr (subst (λ (n : List ℕ). Above (domain_of said) n (domain_aid entries first)) to.3 (above_named to.0 first to.1 used.0 to.2 used.1 higher))
                ]);
            none_lower = λ aid above fit lower.
                (let to = slot_above b y aid at_b above in
                is.none_lower to.0 to.4 (alike to.0 to.1 to.2 ∙ ap named to.3 ∙ fit)
                (above_in_slots first to.0 used.0 to.1 used.1 to.2 (subst (λ (n : List ℕ). Above (domain_of said) (domain_aid entries first) n) (sym to.3) lower)));
          }

      pub none_above_named : (b : ℕ) (y : Entry) → thing_in tables.entries.items b ≡ Some y → NoneAbove (domain_slot tables.entries.items) fits b
          → NoneAbove (domain_of said) named (domain_aid tables.entries.items b)
      none_above_named b y at_b none aid above fit =
          let to = slot_above b y aid at_b above in
          none to.0 to.4 (alike to.0 to.1 to.2 ∙ ap named to.3 ∙ fit)
