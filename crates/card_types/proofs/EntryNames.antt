-- Entries in slots, and the entries that the registry has by names.
use Rattle.std.proofs.Common.{◌≡◌, ℕ, Bool, List, None, Some}
use Rattle.std.specs.Prelude.{find}
use Rattle.card_types.specs.Aid.{same_aid, aid_order}
use Rattle.card_types.specs.Search.{IsLeast, NoneFits}
use Rattle.card_types.specs.Registry as registry
use Rattle.card_types.specs.Registry.{entry_named}
use Rattle.card_types.specs.Represents.{Represents, entry_of, thing_in}
use Rattle.card_types.specs.declared.tables.Entry.{Entry}
use Rattle.card_types.specs.declared.tables.Tables.{Tables}
use Rattle.card_types.proofs.NamesByAid.{aid_in_slot, slot_of_aid, one_slot_of_aid, least_aid, no_aid}

module _ (page : ℕ → List ℕ) (tables : Tables) (said : registry.Registry) (says : Represents page tables said) where
  abbrev view : Entry → registry.Entry
  view entry = entry_of tables.entries.items tables.files.items entry

  abbrev name : registry.Entry → List ℕ
  name entry = entry.aid

  pub entry_in_slot : (slot : ℕ) (entry : Entry) → thing_in tables.entries.items slot ≡ Some entry
      → entry_named said entry.aid ≡ Some (entry_of tables.entries.items tables.files.items entry)
  entry_in_slot slot entry at = aid_in_slot view name tables.entries.items said.entries says.entries says.ascending.entries slot entry at

  pub slot_of_entry : (aid : List ℕ) (named : registry.Entry) → entry_named said aid ≡ Some named
      → (slot : ℕ) × (entry : Entry) × (thing_in tables.entries.items slot ≡ Some entry)
      × (entry_of tables.entries.items tables.files.items entry ≡ named) × (entry.aid ≡ aid)
  slot_of_entry aid named found = slot_of_aid view name tables.entries.items said.entries says.entries says.ascending.entries aid named found

  -- no two slots have the same AID
  pub one_entry_slot : (a b : ℕ) (x y : Entry) → thing_in tables.entries.items a ≡ Some x → thing_in tables.entries.items b ≡ Some y
      → x.aid ≡ y.aid → a ≡ b
  one_entry_slot a b x y at_a at_b alike =
      one_slot_of_aid view name tables.entries.items said.entries says.entries says.ascending.entries a b x y at_a at_b alike

  pub least_entry : (p : registry.Entry → Bool) (slot : ℕ) (entry : Entry)
      → IsLeast (λ e. p (entry_of tables.entries.items tables.files.items e)) (λ x y. aid_order x.aid y.aid) tables.entries.items slot entry
      → find p said.entries ≡ Some (entry_of tables.entries.items tables.files.items entry)
  least_entry p slot entry is =
      least_aid view name tables.entries.items said.entries says.entries says.ascending.entries p slot entry
      (record { at = is.at; fitting = is.fitting; least = is.least })

  pub no_entry : (p : registry.Entry → Bool) → NoneFits (λ e. p (entry_of tables.entries.items tables.files.items e)) tables.entries.items
      → find p said.entries ≡ None
  no_entry p none = no_aid view name tables.entries.items said.entries says.entries says.ascending.entries p none

  pub entry_unnamed : (aid : List ℕ) → NoneFits (λ e. same_aid e.aid aid) tables.entries.items → entry_named said aid ≡ None
  entry_unnamed aid none = no_entry (λ named. same_aid named.aid aid) none
