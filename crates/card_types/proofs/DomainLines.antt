-- Lines of domains, by slots and by names.
use Rattle.std.proofs.Common.{◌≡◌, ◌≢◌, ℕ, List, [], ◌∷◌, Some, refl, ap, sym, subst, ◌∙◌}
use Rattle.std.specs.Prelude.{map}
use Rattle.card_types.specs.Hierarchy.{IsLine}
use Rattle.card_types.specs.Registry as registry
use Rattle.card_types.specs.Registry.{domain_of}
use Rattle.card_types.specs.Represents.{Represents, domain_aid, domain_slot, thing_in}
use Rattle.card_types.specs.Well.{Well}
use Rattle.card_types.specs.declared.tables.Entry.{Entry}
use Rattle.card_types.specs.declared.tables.Tables.{Tables}
use Rattle.card_types.proofs.Domains.{domain_aid_is, domain_is_used, same_domain, step_from_used, step_named, used_from_step, well_entry}
use Rattle.card_types.proofs.Lines.{line_more, line_steps}

module _ (page : ℕ → List ℕ) (tables : Tables) (said : registry.Registry) (says : Represents page tables said) where
  -- a line by slots is a line by names
  pub line_named : (slot : ℕ) (line : List ℕ) → IsLine (domain_slot tables.entries.items) slot line
      → IsLine (domain_of said) (domain_aid tables.entries.items slot) (map (domain_aid tables.entries.items) line)
  line_named slot [] line = absurd line
  line_named slot (first ∷ []) line = (ap (domain_aid tables.entries.items) line.0, step_named page tables said says slot slot line.1)
  line_named slot (first ∷ next ∷ rest) line =
      let here = used_from_step tables.entries.items slot next line.2 in
      let on = line_steps (domain_slot tables.entries.items) next (next ∷ rest) line.3 in
      let there = used_from_step tables.entries.items next on.0 on.1 in (
        ap (domain_aid tables.entries.items) line.0,
        λ alike. line.1 (same_domain page tables said says next slot there.0 here.0 there.1 here.1 alike),
        step_named page tables said says slot next line.2,
        line_named next (next ∷ rest) line.3,
      )

  -- a line by names is a line by slots
  line_back : Well said → (slot : ℕ) (entry : Entry) (line : List (List ℕ)) → thing_in tables.entries.items slot ≡ Some entry
      → IsLine (domain_of said) (domain_aid tables.entries.items slot) line → (slots : List ℕ) × IsLine (domain_slot tables.entries.items) slot slots
  line_back well slot entry [] at line = absurd line
  line_back well slot entry (first ∷ []) at line =
      let steps = step_from_used tables.entries.items slot entry at in
      let named = step_named page tables said says slot entry.domain steps in
      let alike : domain_aid tables.entries.items entry.domain ≡ domain_aid tables.entries.items slot = (let itself = line.1 in cc) in
      let domain = domain_is_used page tables said says well slot entry at in
      let root : entry.domain ≡ slot = same_domain page tables said says entry.domain slot domain.0 entry domain.1 at alike in
      (slot ∷ [], (refl, steps ∙ ap Some root))
  line_back well slot entry (first ∷ next ∷ rest) at line =
      let steps = step_from_used tables.entries.items slot entry at in
      let named = step_named page tables said says slot entry.domain steps in
      let domain = domain_is_used page tables said says well slot entry at in
      let up : domain_aid tables.entries.items entry.domain ≡ next = (let on = line.2 in cc) in
      let other : entry.domain ≢ slot = λ same. line.1 (sym up ∙ ap (domain_aid tables.entries.items) same) in
      let behind = line_back well entry.domain domain.0 (next ∷ rest) domain.1 (subst (λ (aid : List ℕ). IsLine (domain_of said) aid (next ∷ rest)) (sym up) line.3) in
      (slot ∷ behind.0, line_more (domain_slot tables.entries.items) slot entry.domain behind.0 steps other behind.1)

  -- each entry has a line of slots
  pub line_in_slots : Well said → (slot : ℕ) (entry : Entry) → thing_in tables.entries.items slot ≡ Some entry
      → (line : List ℕ) × IsLine (domain_slot tables.entries.items) slot line
  line_in_slots well slot entry at =
      let leads = (well_entry page tables said says well slot entry at).line in
      line_back well slot entry leads.0 at
      (subst (λ (aid : List ℕ). IsLine (domain_of said) aid leads.0) (sym (domain_aid_is tables.entries.items slot entry at)) leads.1)
