use Rattle.std.proofs.Common.{◌≡◌, ◌==◌, Some, subst}
use Rattle.std.specs.Prelude.{nat_lt}
use Rattle.std.proofs.lemmas.Bool.{and_parts, eqb-true}
use Rattle.card_types.proofs.SetNames.{counter_in_slot, has_from_held, has_key_named, key_in_slot, key_length_in_slot, key_length_of_set, set_beside}
use Rattle.card_types.specs.Registry.{key_named}
use Rattle.card_types.specs.Represents.{domain_aid, key_of}
use Rattle.card_types.proofs.key_set.set_with.Goals as goal

pub key_named-requires-clause-there : goal.key_named-requires-clause-there
key_named-requires-clause-there c =
    let order = c.requires.in_order in
    let set = set_beside order.page c.args.tables.now order.said order.says order.well c.requires.there.0 c.args.enc.now c.requires.there.1 c.requires.counts in
    (set.1.second, set.1.second_key)

pub key_named-requires-2-clause-there : goal.key_named-requires-2-clause-there
key_named-requires-2-clause-there c =
    let order = c.requires.in_order in
    let set = set_beside order.page c.args.tables.now order.said order.says order.well c.requires.there.0 c.args.enc.now c.requires.there.1 c.requires.counts in
    (set.1.third, set.1.third_key)

pub returns-clause-lengths : goal.returns-clause-lengths
returns-clause-lengths c =
    let order = c.requires.in_order in
    let tables = c.args.tables.now in
    let tables = c.args.tables.now in
    let enc = c.args.enc.now in
    let slot = c.requires.there.0 in
    let second = c.key_named.ensures in
    let third = c.key_named-2.ensures in
    let alike = key_length_of_set order.page tables order.said order.says order.well in
    record {
      enc = key_length_in_slot order.page tables order.said order.says order.well slot enc c.requires.there.1;
      mac = alike slot second.slot enc c.key_named.result.now c.requires.there.1 second.at second.is.same_owner second.is.same_version;
      dek = alike slot third.slot enc c.key_named-2.result.now c.requires.there.1 third.at third.is.same_owner third.is.same_version;
    }

pub returns-clause-keys : goal.returns-clause-keys
returns-clause-keys c page said says =
    let tables = c.args.tables.now in
    let key = c.args.enc.now in
    let owner = domain_aid tables.entries.items key.owner in
    let named = has_key_named page tables said says key.owner key.version in
    let first : key.identifier ≡ 1 = eqb-true key.identifier 1 (and_parts (key.identifier == 1) (nat_lt key.version 0x70) c.requires.counts).0 in
    record {
      enc = subst (λ n. key_named said owner key.version n ≡ Some (key_of tables.entries.items key)) first (key_in_slot page tables said says c.requires.there.0 key c.requires.there.1);
      mac = named 2 _ _ c.key_named.ensures.at (has_from_held tables.keys.items key.owner key.version 2 _ _ c.key_named.ensures.at c.key_named.ensures.is);
      dek = named 3 _ _ c.key_named-2.ensures.at (has_from_held tables.keys.items key.owner key.version 3 _ _ c.key_named-2.ensures.at c.key_named-2.ensures.is);
      counter = counter_in_slot page tables said says c.requires.there.0 key c.requires.there.1 c.requires.counts;
    }
