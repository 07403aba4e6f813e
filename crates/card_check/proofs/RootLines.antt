-- Lines of domains up to a root, step by step.
use Rattle.std.proofs.Common.{◌≡◌, ◌≢◌, ℕ, ◌+◌, ◌≤◌, List, [], ◌∷◌, length, Option, None, Some, refl, ap, ◌∙◌, arith}
use Rattle.card_types.specs.Hierarchy.{IsLine}
use Rattle.card_types.specs.Represents.{domain_slot, thing_in}
use Rattle.card_types.specs.declared.tables.Entry.{Entry}
use Rattle.card_types.proofs.Domains.{step_from_used}
use Rattle.card_types.proofs.Lines.{line_more, line_steps}
use Rattle.domain_tree.proofs.Climb.{line_after}
use Rattle.domain_tree.proofs.LineLength.{line_length}
use Rattle.card_check.specs.CardSlots.{SlotLeadsToRoot}

-- The climb so far: a line from here is one from the slot, and the other way round, but for what comes after.
pub record IsOnWay (entries : List (Option Entry)) (slot at count : ℕ) : Type 0 where
  pub down : SlotLeadsToRoot entries at → SlotLeadsToRoot entries slot
  pub up : (leads : SlotLeadsToRoot entries slot) → (rest : List ℕ) × IsLine (domain_slot entries) at rest × (length rest + count ≤ length leads.0)

module _ (entries : List (Option Entry)) (slot : ℕ) where
  pub way_begins : IsOnWay entries slot slot 0
  way_begins = record {
    down = λ leads. leads;
    up = λ leads. (leads.0, leads.1, omega arith);
  }

  pub way_goes_on : (at count : ℕ) (entry : Entry) → thing_in entries at ≡ Some entry → entry.domain ≢ at → IsOnWay entries slot at count
      → IsOnWay entries slot entry.domain (count + 1)
  way_goes_on at count entry here on way =
      let steps = step_from_used entries at entry here in
      record {
        down = λ leads. way.down (at ∷ leads.0, line_more (domain_slot entries) at entry.domain leads.0 steps on leads.1);
        up = λ leads.
            (let line = way.up leads in
            let rest = line_after (domain_slot entries) at entry.domain line.0 line.1 steps on in
            (rest.0, rest.1, omega (arith, rest.2, line.2)));
      }

  -- from a free slot no line leads on
  pub way_is_lost : (at count : ℕ) → thing_in entries at ≡ None → IsOnWay entries slot at count → SlotLeadsToRoot entries slot → ⊥
  way_is_lost at count free way leads =
      let line = way.up leads in
      let steps = line_steps (domain_slot entries) at line.0 line.1 in
      let none : domain_slot entries at ≡ None = rw free refl in
      let clash = steps.1 in cc

  -- where a domain is its own the line ends
  pub way_ends : (at count : ℕ) (entry : Entry) → thing_in entries at ≡ Some entry → entry.domain ≡ at → IsOnWay entries slot at count
      → SlotLeadsToRoot entries slot
  way_ends at count entry here root way = way.down (at ∷ [], (refl, step_from_used entries at entry here ∙ ap Some root))

  -- no line is longer than the list of slots
  pub way_is_over : (at count : ℕ) → length entries ≤ count → IsOnWay entries slot at count → SlotLeadsToRoot entries slot → ⊥
  way_is_over at count past way leads =
      let line = way.up leads in
      let short = line_length entries slot leads.0 leads.1 in
      none line.0 line.1 (omega (arith, line.2))
    where
      none : (rest : List ℕ) → IsLine (domain_slot entries) at rest → length rest ≤ 0 → ⊥
      none [] is short = is
      none (x ∷ rest) is short = omega arith
