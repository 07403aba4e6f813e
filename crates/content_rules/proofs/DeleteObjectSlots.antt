-- What of a deletion is in use, as slots are searched.
use Rattle.std.proofs.Common.{◌≡◌, ◌↔◌, ◌⊎◌, inl, inr, ℕ, ◌<◌, Bool, true, List, length, Option, None, Some, refl, ap, sym, subst, ◌∙◌, arith}
use Rattle.std.specs.Prelude.{IsTrue, MatchOption, not, ◌==◌}
use Rattle.std.specs.List.{list_any}
use Rattle.std.proofs.lemmas.Bool.{and_from, and_parts, cases_Bool, cases_lt, eq-eqb, eqb-true, false_from_ne_true, iff_false, not-true, not_from_false}
use Rattle.std.proofs.lemmas.List.{get_or_past}
use Rattle.card_types.proofs.EntryNames.{one_entry_slot}
use Rattle.card_types.proofs.SameAid.{same_aid_decides}
use Rattle.content_rules.specs.Prelude.{HasOthersIn, HasSelected, IsFrom, IsInOrder, comes_from_slot, has_slot, is_file_of, is_other_of, same_aid, thing_in}
use Rattle.card_types.specs.declared.tables.Entry.{Entry}
use Rattle.card_types.specs.declared.tables.Tables.{Tables}
use Rattle.policy_machine.specs.declared.channels.TheConstants.{CHANNELS}
use Rattle.policy_slots.proofs.AnySlot.{passing_slot, slot_passes}
use Rattle.policy_slots.specs.declared.live.Live.{Live}

-- what holds unless a test tells the contrary
pub unless : {P Q : Type 0} (is : Bool) → IsTrue is ↔ P → ((P → ⊥) → Q) → (IsTrue is) ⊎ Q
unless is told free = elim (cases_Bool is) [
  | inl so ↦ inl so
  | inr not_ ↦ inr (free (iff_false told not_))
]

-- a slot that holds something is one of these
pub held_within : {T : Type 0} (slots : List (Option T)) (slot : ℕ) (thing : T) → thing_in slots slot ≡ Some thing → slot < length slots
held_within slots slot thing at = elim (cases_lt slot (length slots)) [
  | inl low ↦ low
  | inr high ↦ (let none = get_or_past slots slot None high in cc)
]

module _ (live : Live) (slot : ℕ) where
  -- a channel has the entry in the slot selected where a search of the channels says so
  pub selected_searched : length live.selected ≡ CHANNELS → (is : Bool) → is ≡ list_any (has_slot slot) live.selected → (is ≡ true) ↔ HasSelected live slot
  selected_searched four is told = (
    λ some.
        (let found = passing_slot (has_slot slot) refl live.selected (sym told ∙ some) in
        let within = held_within live.selected found.0 found.1 found.2 in
        (found.0, omega (arith, within, four), found.2 ∙ ap Some (eqb-true found.1 slot found.3))),
    λ selected. told ∙ slot_passes (has_slot slot) live.selected selected.0 slot selected.2 (eq-eqb slot slot refl),
  )

module _ (tables : Tables) where
  -- a slot with an entry from an Executable Load File
  pub from_used : (file slot : ℕ) → IsFrom tables file slot → (entry : Entry) × (thing_in tables.entries.items slot ≡ Some entry) × (entry.file ≡ file)
  from_used file slot from = by (thing_in tables.entries.items slot) refl from
    where
      by : (o : Option Entry) → thing_in tables.entries.items slot ≡ o → MatchOption o ⊥ (λ entry. entry.file ≡ file)
          → (entry : Entry) × (thing_in tables.entries.items slot ≡ Some entry) × (entry.file ≡ file)
      by None at is = absurd is
      by (Some entry) at is = (entry, at, is)

  pub from_at : (file slot : ℕ) (entry : Entry) → thing_in tables.entries.items slot ≡ Some entry → entry.file ≡ file → IsFrom tables file slot
  from_at file slot entry at is = subst (λ (o : Option Entry). MatchOption o ⊥ (λ e. e.file ≡ file)) (sym at) is

  pub source_searched : (file : ℕ) (is : Bool) → is ≡ list_any (comes_from_slot file) tables.entries.items → (is ≡ true) ↔ ((slot : ℕ) × IsFrom tables file slot)
  source_searched file is told = (
    λ some.
        (let found = passing_slot (comes_from_slot file) refl tables.entries.items (sym told ∙ some) in
        (found.0, from_at file found.0 found.1 found.2 (eqb-true found.1.file file found.3))),
    λ source.
        (let there = from_used file source.0 source.1 in
        told ∙ slot_passes (comes_from_slot file) tables.entries.items source.0 there.0 there.1 (eq-eqb there.0.file file there.2)),
  )

  -- an entry is the domain of others where a search of entries and of Executable Load Files says so
  module _ (order : IsInOrder tables) (slot : ℕ) (entry : Entry) (at : thing_in tables.entries.items slot ≡ Some entry) where
    pub entries_searched : list_any (is_other_of slot entry.aid) tables.entries.items ≡ true → HasOthersIn tables slot
    entries_searched some =
        let found = passing_slot (is_other_of slot entry.aid) refl tables.entries.items some in
        let other = found.1 in
        let parts = and_parts (other.domain == slot) (not (same_aid other.aid entry.aid)) found.3 in
        inl (
          found.0,
          other,
          (λ same.
              (let one : other ≡ entry = (let here = found.2 in let there = ap (thing_in tables.entries.items) same in cc) in
              let hit = (same_aid_decides other.aid entry.aid).1 (ap (λ (e : Entry). e.aid) one) in
              let missed = not-true (same_aid other.aid entry.aid) parts.1 in
              let clash = sym hit ∙ missed in
              cc)),
          found.2,
          eqb-true other.domain slot parts.0,
        )

    pub files_searched : list_any (is_file_of slot) tables.files.items ≡ true → HasOthersIn tables slot
    files_searched some =
        let found = passing_slot (is_file_of slot) refl tables.files.items some in
        inr (found.0, found.1, found.2, eqb-true found.1.domain slot found.3)

    pub others_found : HasOthersIn tables slot
        → (list_any (is_other_of slot entry.aid) tables.entries.items ≡ true) ⊎ (list_any (is_file_of slot) tables.files.items ≡ true)
    others_found (inl (other, another, apart, there, within)) =
        inl (slot_passes (is_other_of slot entry.aid) tables.entries.items other another there
        (and_from (another.domain == slot) (not (same_aid another.aid entry.aid)) (eq-eqb another.domain slot within)
        (not_from_false (same_aid another.aid entry.aid) (false_from_ne_true (same_aid another.aid entry.aid) (λ same.
        apart (one_entry_slot order.page tables order.said order.says other slot another entry there at ((same_aid_decides another.aid entry.aid).0 same)))))))
    others_found (inr (other, file, there, within)) =
        inr (slot_passes (is_file_of slot) tables.files.items other file there (eq-eqb file.domain slot within))
