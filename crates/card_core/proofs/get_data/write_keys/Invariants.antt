use Rattle.std.proofs.Common.{◌≡◌, ◌≤◌, ◌*◌, ℕ, List, None, Some, length}
use Rattle.card_core.specs.Prelude.{IsLeast, Registry, Represents, Well, follows, name_order, thing_in}
use Rattle.card_types.specs.declared.tables.Entry.{Entry}
use Rattle.card_types.specs.declared.tables.Tables.{Tables}
use Rattle.card_core.proofs.Listing.{IsListing}
use Rattle.card_core.proofs.get_data.write_keys.Given as goal

abbrev pub invariant-loop : goal.invariant-loop
invariant-loop l = record {
  size : length l.value.items ≤ 9 * l.counter;
  listing : (page : ℕ → List ℕ) (tables : Tables) (said : Registry) (entry : Entry) → Represents page tables said → Well said
      → l.keys ≡ tables.keys.items → thing_in tables.entries.items l.first.owner ≡ Some entry
      → ((slot : ℕ) × IsLeast (follows l.first.owner None) name_order l.keys slot l.first)
      → IsListing tables said l.first.owner l.key l.counter l.value.items;
}
