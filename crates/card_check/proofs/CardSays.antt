-- The registry that the slots of a card lay out.
use Rattle.std.proofs.Common.{ℕ, ◌==◌, List, refl, sym, ◌∙◌}
use Rattle.std.specs.Prelude.{filter, map, nat_lt}
use Rattle.std.specs.Ordering.{nat_cmp}
use Rattle.std.specs.declared.cmp.Ordering.{Ordering}
use Rattle.std.proofs.lemmas.Bool.{and_parts, eqb-true}
use Rattle.std.proofs.lemmas.Cmp.{nat_list_cmp_total, on_total}
use Rattle.std.proofs.lemmas.Map.Lookups.{exact_unsigned}
use Rattle.card_types.specs.Aid.{aid_order}
use Rattle.card_types.specs.Registry.{counter_order, key_order, object_order}
use Rattle.card_types.specs.Registry as registry
use Rattle.card_types.specs.Represents.{Represents, counter_of, entry_of, file_of, keeps_counter, key_of, object_of, things_in}
use Rattle.card_types.specs.declared.tables.Entry.{Entry}
use Rattle.card_types.specs.declared.tables.KeyRec.{KeyRec}
use Rattle.card_types.specs.declared.tables.LoadFile.{LoadFile}
use Rattle.card_types.specs.declared.tables.Object.{Object}
use Rattle.card_types.specs.declared.tables.Tables.{Tables}
use Rattle.card_types.proofs.KeyNames.{counter_order_total, key_order_total}
use Rattle.card_types.proofs.LeastOfList.{names_sorted}
use Rattle.card_types.proofs.NotAbove.{then_equal}
use Rattle.card_types.proofs.ObjectNames.{object_order_total}
use Rattle.card_types.proofs.SameAid.{aid_equal_same}
use Rattle.card_check.specs.CardSlots.{HasCardSlots}
use Rattle.card_check.proofs.CardNames.{one_entry, one_file, one_key, one_object}
use Rattle.card_check.proofs.Sorting.{Sorted, sort_kept, sort_used}

module _ (page : ℕ → List ℕ) (tables : Tables) (card : HasCardSlots tables) where
  abbrev view_entry : Entry → registry.Entry
  view_entry entry = entry_of tables.entries.items tables.files.items entry

  abbrev view_file : LoadFile → registry.LoadFile
  view_file file = file_of page tables.entries.items file

  abbrev view_key : KeyRec → registry.Key
  view_key key = key_of tables.entries.items key

  abbrev view_counter : KeyRec → registry.Counter
  view_counter key = counter_of tables.entries.items key

  abbrev view_object : Object → registry.Object
  view_object object = object_of tables.entries.items object

  abbrev by_entry : registry.Entry → registry.Entry → Ordering
  by_entry a b = aid_order a.aid b.aid

  abbrev by_file : registry.LoadFile → registry.LoadFile → Ordering
  by_file a b = aid_order a.aid b.aid

  entries : Sorted by_entry (map view_entry (things_in tables.entries.items))
  entries = sort_used by_entry (on_total (λ (entry : registry.Entry). entry.aid) nat_list_cmp_total) view_entry tables.entries.items
      (λ a b x y at_a at_b kept_x kept_y tied. one_entry tables card a b x y at_a at_b (aid_equal_same x.aid y.aid tied))

  files : Sorted by_file (map view_file (things_in tables.files.items))
  files = sort_used by_file (on_total (λ (file : registry.LoadFile). file.aid) nat_list_cmp_total) view_file tables.files.items
      (λ a b x y at_a at_b kept_x kept_y tied. one_file tables card a b x y at_a at_b (aid_equal_same x.aid y.aid tied))

  keys : Sorted key_order (map view_key (things_in tables.keys.items))
  keys = sort_used key_order key_order_total view_key tables.keys.items (λ a b x y at_a at_b kept_x kept_y tied.
      (let owner = then_equal (aid_order (view_key x).owner (view_key y).owner) _ tied in
      let name = then_equal (nat_cmp x.version y.version) (nat_cmp x.identifier y.identifier) owner.1 in
      one_key tables card a b x y at_a at_b (aid_equal_same (view_key x).owner (view_key y).owner owner.0)
      (exact_unsigned x.version y.version name.0) (exact_unsigned x.identifier y.identifier name.1)))

  counters : Sorted counter_order (map view_counter (filter keeps_counter (things_in tables.keys.items)))
  counters = sort_kept counter_order counter_order_total view_counter keeps_counter tables.keys.items (λ a b x y at_a at_b kept_x kept_y tied.
      (let name = then_equal (aid_order (view_key x).owner (view_key y).owner) (nat_cmp x.version y.version) tied in
      let first = eqb-true x.identifier 1 (and_parts (x.identifier == 1) (nat_lt x.version 0x70) kept_x).0 in
      let second = eqb-true y.identifier 1 (and_parts (y.identifier == 1) (nat_lt y.version 0x70) kept_y).0 in
      one_key tables card a b x y at_a at_b (aid_equal_same (view_key x).owner (view_key y).owner name.0)
      (exact_unsigned x.version y.version name.1) (first ∙ sym second)))

  objects : Sorted object_order (map view_object (things_in tables.objects.items))
  objects = sort_used object_order object_order_total view_object tables.objects.items (λ a b x y at_a at_b kept_x kept_y tied.
      (let name = then_equal (aid_order (view_object x).owner (view_object y).owner) (nat_cmp x.tag y.tag) tied in
      one_object tables card a b x y at_a at_b (aid_equal_same (view_object x).owner (view_object y).owner name.0) (exact_unsigned x.tag y.tag name.1)))

  pub said_by_card : registry.Registry
  said_by_card = record {
    life = tables.life;
    entries = entries.list;
    files = files.list;
    keys = keys.list;
    counters = counters.list;
    objects = objects.list;
  }

  pub card_says : Represents page tables said_by_card
  unfolding said_by_card
  card_says = record {
    life = refl;
    entries = entries.same;
    files = files.same;
    keys = keys.same;
    counters = counters.same;
    objects = objects.same;
    ascending = record {
      entries = names_sorted aid_order (λ (entry : registry.Entry). entry.aid) entries.list entries.ascending;
      files = names_sorted aid_order (λ (file : registry.LoadFile). file.aid) files.list files.ascending;
      keys = keys.ascending;
      counters = counters.ascending;
      objects = objects.ascending;
    };
  }
