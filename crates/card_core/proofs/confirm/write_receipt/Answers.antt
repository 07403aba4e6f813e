use Rattle.std.proofs.Common.{rules, ◌≡◌, Some}
use Rattle.card_types.proofs.SetNames.{key_length_in_slot}
use Rattle.card_types.specs.Represents.{thing_in}
use Rattle.card_core.proofs.confirm.write_receipt.Goals as goal

pub write_under-requires-clause-length : goal.write_under-requires-clause-length
write_under-requires-clause-length c =
    let order = c.requires.in_order in
    let found = c.unwrap-found.result in
    let there : thing_in c.deref.result.now found.slot ≡ Some found.thing.now = search rules in
    key_length_in_slot order.page c.args.tables.now order.said order.says order.well found.slot found.thing.now (rw c.deref.ensures.value at there)
