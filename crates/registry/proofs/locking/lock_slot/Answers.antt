use Rattle.std.proofs.Common.{◌≡◌, inl, inr, ℕ, ◌<◌, List, Option, None, Some, length, ap, sym, subst, ◌∙◌, arith}
use Rattle.std.specs.Prelude.{Contains}
use Rattle.std.proofs.lemmas.List.{get_or-set_same}
use Rattle.card_types.specs.Represents.{thing_in}
use Rattle.card_types.specs.declared.tables.Entry.{Entry}
use Rattle.card_types.specs.declared.tables.Tables.{Tables}
use Rattle.rec_store.specs.Places.{entry_page}
use Rattle.registry.proofs.Staging.{staged_before}
use Rattle.registry.proofs.locking.lock_slot.Goals as goal

pub returns-in-Some-clause-staged : goal.returns-in-Some-clause-staged
returns-in-Some-clause-staged g c page there =
    let slot = c.args.slot in
    let before = c.args.records.now in
    let after = c.put_entry.new.records.tables.entries.items in
    let entry = c.in-Some.entry in
    let slots : c.deref.result.now ≡ before.tables.entries.items = c.deref.ensures.value ∙ ap (λ (t : Tables). t.entries.items) c.tables.ensures.tables in
    let low : slot < length before.tables.entries.items = omega (arith, c.requires.range, c.tables.ensures.roomy.slots.entries) in
    let set : thing_in after slot ≡ Some entry =
    ap (λ (s : List (Option Entry)). thing_in s slot) c.put_entry.ensures.tables.entries ∙ get_or-set_same before.tables.entries.items slot (Some entry) None low in
    elim (staged_before before.staged (entry_page slot) page (subst (λ (s : List ℕ). Contains s page) c.put_entry.ensures.staged there)) [
      | inl old ↦ inl old
      | inr new ↦ inr (slot, new, λ same. c.in-Some.ensures.some.1 (ap (λ (s : List (Option Entry)). thing_in s slot) slots ∙ sym same ∙ set))
    ]
